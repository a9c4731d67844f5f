use Rattle.std.proofs.Common.{◌≡◌, map, drop}
use Rattle.ledger_model.specs.State.{all_changed}
use Rattle.versions.specs.Held.{table_of}
use Rattle.versions.proofs.tables.change_all.Given as goal

-- what is left changes what stands so far into what all changes give
abbrev pub invariant-loop-change : goal.invariant-loop-change
invariant-loop-change l = all_changed (map table_of l.tables.items) (drop l.change-index l.changes) ≡ all_changed (map table_of l.initial.tables.items) l.changes
