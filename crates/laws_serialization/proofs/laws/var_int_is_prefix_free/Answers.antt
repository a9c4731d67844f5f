use Rattle.laws_serialization.proofs.Numbers.{var_int_is_prefix_free}
use Rattle.laws_serialization.proofs.laws.var_int_is_prefix_free.Goals as goal

pub returns : goal.returns
returns c = var_int_is_prefix_free
