use Rattle.ion_order.proofs.Scalars.{values_are_ordered}
use Rattle.ion_order.proofs.laws.values_are_ordered.Goals as goal

pub returns : goal.returns
returns c = values_are_ordered
