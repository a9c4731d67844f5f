use Rattle.ion_extract.proofs.Levels.{annotated_is_injective}
use Rattle.ion_extract.proofs.laws.annotated_is_injective.Goals as goal

pub returns : goal.returns
returns c = annotated_is_injective
