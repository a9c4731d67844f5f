use Rattle.std.proofs.Common.{◌≡◌, ◌<◌, ◌^◌, drop}
use Rattle.std.specs.Char.{is_ascii_digit}
use Rattle.std.specs.List.{filter}
use Rattle.std.specs.Str.Parse.{digits_value, digits_value_after}
use Rattle.pql_lexer.proofs.numbers.magnitude.Given as goal

-- the digits read so far stand before those that are left
abbrev pub invariant-digits : goal.invariant-digits
invariant-digits l = record {
  fits : l.number < 2 ^ 128;
  same : digits_value_after 10 l.number (filter is_ascii_digit (drop l.b-index l.text)) ≡ digits_value 10 (filter is_ascii_digit l.text);
}
