use Rattle.ion_extract.proofs.Frames.{joined_is_injective}
use Rattle.ion_extract.proofs.laws.joined_is_injective.Goals as goal

pub returns : goal.returns
returns c = joined_is_injective
