use Rattle.ion_values.specs.KeyOrder.{keys_are_ordered}
use Rattle.ion_values.proofs.laws.keys_are_ordered.Goals as goal

pub returns : goal.returns
returns c = keys_are_ordered
