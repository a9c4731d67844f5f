use Rattle.laws_footprint.proofs.Settling.{run_is_settled}
use Rattle.laws_footprint.proofs.laws.run_is_settled.Goals as goal

pub returns : goal.returns
returns c = run_is_settled
