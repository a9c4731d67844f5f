use Rattle.std.proofs.Common.{◌≡◌, ◌++◌}
use Rattle.pql_change.specs.Touched.{ids_in}
use Rattle.pql_change.proofs.deletes.into_ids.Given as goal

abbrev pub invariant-ids : goal.invariant-ids
invariant-ids l = l.ids ++ ids_in l.raw-iterator ≡ ids_in l.fn.named.keys
