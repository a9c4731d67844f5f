use Rattle.laws_crash.proofs.Steps.{cut_keeps}
use Rattle.laws_crash.proofs.cut_keeps.Goals as goal

pub returns : goal.returns
returns c = cut_keeps
