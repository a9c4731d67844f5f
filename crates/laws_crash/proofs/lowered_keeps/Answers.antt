use Rattle.laws_crash.proofs.Steps.{lowered_keeps}
use Rattle.laws_crash.proofs.lowered_keeps.Goals as goal

pub returns : goal.returns
returns c = lowered_keeps
