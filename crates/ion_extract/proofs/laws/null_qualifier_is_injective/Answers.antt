use Rattle.ion_extract.proofs.Levels.{null_qualifier_is_injective}
use Rattle.ion_extract.proofs.laws.null_qualifier_is_injective.Goals as goal

pub returns : goal.returns
returns c = null_qualifier_is_injective
