use Rattle.laws_crash.proofs.Steps.{sync_keeps}
use Rattle.laws_crash.proofs.sync_keeps.Goals as goal

pub returns : goal.returns
returns c = sync_keeps
