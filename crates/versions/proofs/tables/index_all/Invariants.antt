use Rattle.std.proofs.Common.{◌≡◌, map, drop}
use Rattle.ledger_model.specs.State.{all_indexed}
use Rattle.versions.specs.Held.{indexed_of}
use Rattle.versions.proofs.tables.index_all.Given as goal

-- what is left makes of the fields so far what all changes give
abbrev pub invariant-changes : goal.invariant-changes
invariant-changes l = all_indexed (map indexed_of l.indexes.items) (drop l.change-index l.changes) ≡ all_indexed (map indexed_of l.initial.indexes.items) l.changes
