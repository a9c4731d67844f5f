use Rattle.laws_crash.proofs.Steps.{mark_keeps}
use Rattle.laws_crash.proofs.mark_keeps.Goals as goal

pub returns : goal.returns
returns c = mark_keeps
