use Rattle.laws_descent.proofs.Lengths.{ids_are_short}
use Rattle.laws_descent.proofs.laws.ids_are_short.Goals as goal

pub returns : goal.returns
returns c = ids_are_short
