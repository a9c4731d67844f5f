use Rattle.laws_serialization.proofs.Decimals.{decimal_is_injective}
use Rattle.laws_serialization.proofs.laws.decimal_is_injective.Goals as goal

pub returns : goal.returns
returns c = decimal_is_injective
