use Rattle.std.proofs.Common.{◌≡◌, drop, length}
use Rattle.std.specs.Cmp.Lexicographic.{pointwise}
use Rattle.stream_out.specs.Same.{same_table}
use Rattle.stream_out.proofs.same.same_tables.Given as goal

abbrev pub invariant-loop-at : goal.invariant-loop-at
invariant-loop-at l =
    record { lengths : length l.a ≡ length l.b; told : pointwise same_table (drop l.at l.a) (drop l.at l.b) ≡ pointwise same_table l.a l.b }
