use Rattle.std.proofs.Common.{◌≡◌, drop}
use Rattle.ion_model.specs.Numbers.{is_digits, is_spelled}
use Rattle.ion_lexer.proofs.number.digits.is_digits.Given as goal

-- what is left gives what the whole gives
abbrev pub invariant-loop-b : goal.invariant-loop-b
invariant-loop-b l = is_spelled l.base l.after (drop l.b-index l.text) ≡ is_digits l.base l.text
