use Rattle.laws_crash.proofs.Steps.{try_keeps}
use Rattle.laws_crash.proofs.try_keeps.Goals as goal

pub returns : goal.returns
returns c = try_keeps
