use Rattle.laws_crash.proofs.Steps.{append_keeps}
use Rattle.laws_crash.proofs.append_keeps.Goals as goal

pub returns : goal.returns
returns c = append_keeps
