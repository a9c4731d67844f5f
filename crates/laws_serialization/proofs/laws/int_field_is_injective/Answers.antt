use Rattle.laws_serialization.proofs.Numbers.{int_field_is_injective}
use Rattle.laws_serialization.proofs.laws.int_field_is_injective.Goals as goal

pub returns : goal.returns
returns c = int_field_is_injective
