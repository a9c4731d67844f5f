use Rattle.laws_footprint.proofs.Restricts.{frame_of_rows}
use Rattle.laws_footprint.proofs.laws.frame_of_rows.Goals as goal

pub returns : goal.returns
returns c = frame_of_rows
