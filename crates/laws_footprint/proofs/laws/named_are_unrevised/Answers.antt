use Rattle.laws_footprint.proofs.Naming.{named_are_unrevised}
use Rattle.laws_footprint.proofs.laws.named_are_unrevised.Goals as goal

pub returns : goal.returns
returns c = named_are_unrevised
