use Rattle.laws_footprint.proofs.Covering.{footprint_restricts}
use Rattle.laws_footprint.proofs.laws.footprint_restricts.Goals as goal

pub returns : goal.returns
returns c = footprint_restricts
