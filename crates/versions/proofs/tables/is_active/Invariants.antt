use Rattle.std.proofs.Common.{◌≡◌, map, drop}
use Rattle.ledger_model.specs.Follows.{is_active}
use Rattle.versions.specs.Held.{table_of}
use Rattle.versions.proofs.tables.is_active.Given as goal

-- the tables in front are others, or active no more
abbrev pub invariant-tables : goal.invariant-tables
invariant-tables l = is_active (map table_of (drop l.table-index l.tables)) l.id ≡ is_active (map table_of l.tables) l.id
