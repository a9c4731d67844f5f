use Rattle.ion_same.proofs.Sameness.{values-decide}
use Rattle.ion_same.proofs.same.same_values_are_equal.Goals as goal

pub returns : goal.returns
returns c = values-decide
