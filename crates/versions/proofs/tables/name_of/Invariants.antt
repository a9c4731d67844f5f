use Rattle.std.proofs.Common.{◌≡◌, map, drop}
use Rattle.versions.specs.Held.{table_of}
use Rattle.versions.specs.Lookups.{name_of}
use Rattle.versions.proofs.tables.name_of.Given as goal

-- the tables in front have other ids
abbrev pub invariant-tables : goal.invariant-tables
invariant-tables l = name_of (map table_of (drop l.table-index l.tables)) l.id ≡ name_of (map table_of l.tables) l.id
