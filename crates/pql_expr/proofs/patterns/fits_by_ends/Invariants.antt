use Rattle.std.proofs.Common.{◌≡◌, ◌≤◌, ◌+◌, vec_len, drop, length}
use Rattle.pql_model.specs.Texts.{fits}
use Rattle.pql_expr.specs.Ends.{by_length}
use Rattle.pql_expr.proofs.patterns.fits_by_ends.Given as goal

abbrev pub invariant-pattern : goal.invariant-pattern
invariant-pattern l = record { told : l.ends.items ≡ by_length (fits (drop l.at l.pattern)) l.text; within : l.at ≤ length l.pattern; room : vec_len l.ends ≡ length l.text + 1 }

abbrev pub decreases-pattern : goal.decreases-pattern
decreases-pattern l = l.at
