use Rattle.laws_footprint.proofs.Framing.{covered_rows_are_framed}
use Rattle.laws_footprint.proofs.laws.covered_rows_are_framed.Goals as goal

pub returns : goal.returns
returns c = covered_rows_are_framed
