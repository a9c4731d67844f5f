use Rattle.laws_footprint.proofs.Settling.{run_owns_all}
use Rattle.laws_footprint.proofs.laws.run_owns_all.Goals as goal

pub returns : goal.returns
returns c = run_owns_all
