use Rattle.ion_values.specs.KeyOrder.{equal_keys_are_one}
use Rattle.ion_values.proofs.laws.equal_keys_are_one.Goals as goal

pub returns : goal.returns
returns c = equal_keys_are_one
