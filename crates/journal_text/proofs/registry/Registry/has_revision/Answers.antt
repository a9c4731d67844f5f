use Rattle.std.proofs.Common.{◌∙◌, sym}
use Rattle.ledger_model.specs.State.{state}
use Rattle.ledger_model.specs.Follows.{created_ids}
use Rattle.journal_text.proofs.Admits.{next_tells, of_stops, table_stops}
use Rattle.journal_text.proofs.registry.Registry.has_revision.Goals as goal

pub returns-then-not-is_of : goal.returns-then-not-is_of
returns-then-not-is_of c = λ strand before h keys. of_stops (state before) c.args.block.now (record { table = c.args.table; revision = c.args.revision.now }) (sym c.is_of.ensures ∙ c.if-not-is_of.true)

pub returns-then-not-has_table : goal.returns-then-not-has_table
returns-then-not-has_table c = λ strand before h keys.
    table_stops (state before) c.args.block.now (record { table = c.args.table; revision = c.args.revision.now }) (sym (c.has_table.ensures strand before (created_ids c.args.block.now.info.schema) h keys) ∙ c.if-not-has_table.true)

pub returns : goal.returns
returns c = λ strand before h keys.
    next_tells (state before) c.args.block.now (record { table = c.args.table; revision = c.args.revision.now }) c.is_continued.result (sym c.is_of.ensures ∙ c.if-not-is_of.false) (sym (c.has_table.ensures strand before (created_ids c.args.block.now.info.schema) h keys) ∙ c.if-not-has_table.false)
    (c.is_continued.ensures (state before).revisions h.documents)
