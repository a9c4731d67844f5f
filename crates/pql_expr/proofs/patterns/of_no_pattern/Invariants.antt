use Rattle.std.proofs.Common.{◌≡◌, ◌≤◌, ◌+◌, vec_len, [], drop, length}
use Rattle.pql_model.specs.Texts.{fits}
use Rattle.pql_expr.specs.Ends.{by_length}
use Rattle.pql_expr.proofs.patterns.of_no_pattern.Given as goal

abbrev pub invariant-ends : goal.invariant-ends
invariant-ends l = record { told : l.ends.items ≡ by_length (fits []) (drop l.at l.text); within : l.at ≤ length l.text; room : vec_len l.ends + l.at ≡ length l.text + 1 }

abbrev pub decreases-ends : goal.decreases-ends
decreases-ends l = l.at
