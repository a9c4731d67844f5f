use Rattle.laws_descent.proofs.Lengths.{four_hashes_are_long}
use Rattle.laws_descent.proofs.laws.four_hashes_are_long.Goals as goal

pub returns : goal.returns
returns c = four_hashes_are_long
