use Rattle.std.proofs.Common.{◌≡◌, map, drop}
use Rattle.ledger_model.specs.State.{active_table}
use Rattle.versions.specs.Held.{table_of}
use Rattle.versions.proofs.tables.active_table.Given as goal

-- the tables in front have another name or are active no more
abbrev pub invariant-loop-table : goal.invariant-loop-table
invariant-loop-table l = active_table (map table_of (drop l.table-index l.tables)) l.name ≡ active_table (map table_of l.tables) l.name
