use Rattle.std.proofs.Common.{◌≡◌, ◌<◌, ◌^◌, drop}
use Rattle.std.specs.Str.Parse.{digits_value, digits_value_after}
use Rattle.ion_model.specs.Numbers.{digits_in}
use Rattle.ion_lexer.proofs.number.digits.magnitude.Given as goal

-- the digits read so far stand before those that are left
abbrev pub invariant-loop-b : goal.invariant-loop-b
invariant-loop-b l = record {
  fits : l.number < 2 ^ 128;
  same : digits_value_after l.base l.number (digits_in l.base (drop l.b-index l.text)) ≡ digits_value l.base (digits_in l.base l.text);
}
