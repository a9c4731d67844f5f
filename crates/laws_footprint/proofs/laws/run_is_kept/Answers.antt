use Rattle.laws_footprint.proofs.Settling.{run_is_kept}
use Rattle.laws_footprint.proofs.laws.run_is_kept.Goals as goal

pub returns : goal.returns
returns c = run_is_kept
