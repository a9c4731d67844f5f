use Rattle.laws_serialization.proofs.Decimals.{offset_is_prefix_free}
use Rattle.laws_serialization.proofs.laws.offset_is_prefix_free.Goals as goal

pub returns : goal.returns
returns c = offset_is_prefix_free
