use Rattle.laws_descent.proofs.Lengths.{length-field_hash}
use Rattle.laws_descent.proofs.laws.field_hashes_are_long.Goals as goal

pub returns : goal.returns
returns c = length-field_hash
