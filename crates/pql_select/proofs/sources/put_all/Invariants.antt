use Rattle.std.proofs.Common.{◌≡◌, ◌++◌}
use Rattle.pql_select.proofs.sources.put_all.Given as goal

abbrev pub invariant-fields : goal.invariant-fields
invariant-fields l = l.fields ≡ l.initial.fields ++ l.yielded
