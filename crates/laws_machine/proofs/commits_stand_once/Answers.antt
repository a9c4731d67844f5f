use Rattle.laws_machine.proofs.Once.{commits_stand_once}
use Rattle.laws_machine.proofs.commits_stand_once.Goals as goal

pub returns : goal.returns
returns c = commits_stand_once
