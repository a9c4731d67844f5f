use Rattle.ion_extract.proofs.Hashes.{joined_hashes_are_injective}
use Rattle.ion_extract.proofs.laws.joined_hashes_are_injective.Goals as goal

pub returns : goal.returns
returns c = joined_hashes_are_injective
