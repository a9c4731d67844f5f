use Rattle.laws_serialization.proofs.Numbers.{var_uint_is_prefix_free}
use Rattle.laws_serialization.proofs.laws.var_uint_is_prefix_free.Goals as goal

pub returns : goal.returns
returns c = var_uint_is_prefix_free
