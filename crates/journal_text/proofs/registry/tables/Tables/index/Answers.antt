use Rattle.std.proofs.Common.{◌∙◌, not, refl, sym}
use Rattle.std.proofs.lemmas.Bool.{and_left}
use Rattle.ledger_model.specs.declared.block.Schema.TheVariants.{Index}
use Rattle.ledger_model.specs.Follows.{has_index, is_active}
use Rattle.journal_text.proofs.TableSteps.{indexed_by, refused}
use Rattle.journal_text.proofs.registry.tables.Tables.index.Goals as goal

pub returns-then-not-is_active : goal.returns-then-not-is_active
returns-then-not-is_active c = λ tables indexes h.
    refused tables indexes (Index c.args.field.now c.args.id) c.args.self.now (and_left (is_active tables c.args.id) (not (has_index indexes c.args.id c.args.field.now)) (sym (c.is_active.ensures tables indexes h) ∙ c.if-not-is_active.true))

pub returns : goal.returns
returns c = λ tables indexes h.
    indexed_by tables indexes c.args.self.now _ c.args.field.now c.args.id c.in_ok-field.field c.in_ok-is_new.is_new c.is_active.result h (c.is_active.ensures tables indexes h)
    c.if-not-is_active.false (c.in_ok-field.ensures.ok ∙ c.as_str.ensures) c.in_ok-is_new.ensures.added c.in_ok-is_new.ensures.updates refl refl
