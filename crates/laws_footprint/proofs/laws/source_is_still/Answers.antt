use Rattle.laws_footprint.proofs.Framing.{source_is_still}
use Rattle.laws_footprint.proofs.laws.source_is_still.Goals as goal

pub returns : goal.returns
returns c = source_is_still
