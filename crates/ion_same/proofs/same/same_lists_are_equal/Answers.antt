use Rattle.ion_same.proofs.Sameness.{lists-decide}
use Rattle.ion_same.proofs.same.same_lists_are_equal.Goals as goal

pub returns : goal.returns
returns c = lists-decide
