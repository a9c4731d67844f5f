use Rattle.ion_order.proofs.Scalars.{keys_tell_equal}
use Rattle.ion_order.proofs.laws.keys_tell_equal.Goals as goal

pub returns : goal.returns
returns c = keys_tell_equal
