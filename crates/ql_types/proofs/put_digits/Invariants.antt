use Rattle.std.proofs.Common.{◌≡◌, ◌+◌, ◌-◌, ◌++◌, drop, length}
use Rattle.ql_types.specs.Ids.{digits_of}
use Rattle.ql_types.proofs.put_digits.Given as goal

abbrev pub invariant-digits : goal.invariant-digits
invariant-digits l = record {
  long : length l.text ≡ 22;
  so_far : digits_of (l.count - l.written) l.rest ++ drop (l.from + (l.count - l.written)) l.text
      ≡ digits_of l.count l.number ++ drop (l.from + l.count) l.fn.text;
}
