use Rattle.std.proofs.Common.{◌≡◌, ◌++◌, List, drop, true}
use Rattle.ledger_model.specs.State.{Table, Indexed}
use Rattle.ledger_model.specs.Follows.{all_differ, created_ids}
use Rattle.journal_text.specs.Stands.{TablesStand, table_ids}
use Rattle.journal_text.proofs.TableSteps.{Halfway}
use Rattle.journal_text.proofs.registry.tables.Tables.change_all.Given as goal

-- the changes so far are made
abbrev pub invariant-changes : goal.invariant-changes
invariant-changes l = (tables : List Table) (indexes : List Indexed) → TablesStand tables indexes l.initial.self
    → all_differ (table_ids tables ++ created_ids l.schema) ≡ true → Halfway tables indexes l.schema (drop l.change-index l.schema) l.self
