use Rattle.std.proofs.Common.{◌≡◌, ◌+◌, ◌≤◌, map, drop}
use Rattle.ledger_model.specs.SchemaChanges.{index_count}
use Rattle.versions.specs.Held.{indexed_of}
use Rattle.versions.proofs.tables.index_count.Given as goal

-- those in front and those of the rest are all
abbrev pub invariant-indexes : goal.invariant-indexes
invariant-indexes l = record {
  so_far : l.count + index_count (map indexed_of (drop l.index-index l.indexes)) l.table ≡ index_count (map indexed_of l.indexes) l.table;
  within : l.count ≤ l.index-index;
}
