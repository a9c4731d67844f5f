use Rattle.std.proofs.Common.{◌∙◌, sym}
use Rattle.ledger_model.specs.State.{state}
use Rattle.journal_text.proofs.Admits.{table_active, table_created}
use Rattle.journal_text.proofs.registry.Registry.has_table.Goals as goal

pub returns-then-is_active : goal.returns-then-is_active
returns-then-is_active c = λ strand before ids h keys.
    table_active (state before).tables ids c.args.table (sym (c.is_active.ensures (state before).tables (state before).indexes h.tables) ∙ c.if-is_active.true)

pub returns : goal.returns
returns c = λ strand before ids h keys.
    table_created (state before).tables ids c.args.table c.contains.result (sym (c.is_active.ensures (state before).tables (state before).indexes h.tables) ∙ c.if-is_active.false)
    (c.contains.ensures ∙ keys c.args.table.raw)
