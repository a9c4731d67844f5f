use Rattle.laws_footprint.proofs.Framing.{statement_is_framed}
use Rattle.laws_footprint.proofs.laws.statement_is_framed.Goals as goal

pub returns : goal.returns
returns c = statement_is_framed
