use Rattle.std.proofs.Common.{◌≡◌, ◌+◌, ◌≤◌, map, drop}
use Rattle.ledger_model.specs.Run.{active_count}
use Rattle.versions.specs.Held.{table_of}
use Rattle.versions.proofs.tables.active_count.Given as goal

-- those in front and those of the rest are all
abbrev pub invariant-tables : goal.invariant-tables
invariant-tables l = record {
  so_far : l.count + active_count (map table_of (drop l.table-index l.tables)) ≡ active_count (map table_of l.tables);
  within : l.count ≤ l.table-index;
}
