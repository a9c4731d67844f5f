use Rattle.laws_footprint.proofs.Framing.{name_is_framed}
use Rattle.laws_footprint.proofs.laws.name_is_framed.Goals as goal

pub returns : goal.returns
returns c = name_is_framed
