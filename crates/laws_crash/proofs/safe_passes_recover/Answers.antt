use Rattle.laws_crash.proofs.Moments.{safe_passes_recover}
use Rattle.laws_crash.proofs.safe_passes_recover.Goals as goal

pub returns : goal.returns
returns c = safe_passes_recover c.safe_recovers.ensures
