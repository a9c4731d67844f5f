use Rattle.laws_footprint.proofs.Covering.{footprint_covers}
use Rattle.laws_footprint.proofs.laws.footprint_covers.Goals as goal

pub returns : goal.returns
returns c = footprint_covers
