use Rattle.std.proofs.Common.{◌≡◌, map, take, drop}
use Rattle.ledger_model.specs.State.{dropped}
use Rattle.versions.specs.Held.{table_of}
use Rattle.versions.proofs.tables.drop_table.Given as goal

abbrev pub invariant-loop-table : goal.invariant-loop-table
invariant-loop-table l = record {
  done : map table_of (take l.table-index l.tables) ≡ map (dropped l.id) (map table_of (take l.table-index l.initial.tables));
  left : drop l.table-index l.tables ≡ drop l.table-index l.initial.tables;
}
