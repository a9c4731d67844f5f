use Rattle.hash_model.proofs.Digits.{digits_tell_numbers}
use Rattle.hash_model.proofs.laws.digits_tell_numbers.Goals as goal

pub returns : goal.returns
returns c = digits_tell_numbers
