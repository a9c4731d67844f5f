use Rattle.laws_footprint.proofs.Framing.{rows_are_framed}
use Rattle.laws_footprint.proofs.laws.rows_are_framed.Goals as goal

pub returns : goal.returns
returns c = rows_are_framed
