use Rattle.laws_crash.proofs.Steps.{cut_and_sync_settles}
use Rattle.laws_crash.proofs.cut_and_sync_settles.Goals as goal

pub returns : goal.returns
returns c = cut_and_sync_settles
