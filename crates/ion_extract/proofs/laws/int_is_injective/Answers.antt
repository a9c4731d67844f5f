use Rattle.ion_extract.proofs.Levels.{int_is_injective}
use Rattle.ion_extract.proofs.laws.int_is_injective.Goals as goal

pub returns : goal.returns
returns c = int_is_injective
