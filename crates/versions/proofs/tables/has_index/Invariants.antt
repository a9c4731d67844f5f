use Rattle.std.proofs.Common.{◌≡◌, map, drop}
use Rattle.ledger_model.specs.Follows.{has_index}
use Rattle.versions.specs.Held.{indexed_of}
use Rattle.versions.proofs.tables.has_index.Given as goal

-- the indexes in front are on other fields
abbrev pub invariant-indexes : goal.invariant-indexes
invariant-indexes l = has_index (map indexed_of (drop l.index-index l.indexes)) l.table l.field ≡ has_index (map indexed_of l.indexes) l.table l.field
