use Rattle.laws_crash.proofs.Steps.{append_and_sync_seals}
use Rattle.laws_crash.proofs.append_and_sync_seals.Goals as goal

pub returns : goal.returns
returns c = append_and_sync_seals
