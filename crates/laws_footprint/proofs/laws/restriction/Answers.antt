use Rattle.laws_footprint.proofs.Restricts.{restriction}
use Rattle.laws_footprint.proofs.laws.restriction.Goals as goal

pub returns : goal.returns
returns c = restriction
