use Rattle.laws_serialization.proofs.Numbers.{magnitude_is_injective}
use Rattle.laws_serialization.proofs.laws.magnitude_is_injective.Goals as goal

pub returns : goal.returns
returns c = magnitude_is_injective
