use Rattle.std.proofs.Common.{◌∙◌, refl, sym}
use Rattle.ledger_model.specs.declared.block.Schema.TheVariants.{Drop}
use Rattle.journal_text.proofs.TableSteps.{dropped_by, refused}
use Rattle.journal_text.proofs.registry.tables.Tables.remove.Goals as goal

pub returns-then-not-is_named : goal.returns-then-not-is_named
returns-then-not-is_named c = λ tables indexes h ids.
    refused tables indexes (Drop c.args.name.now c.args.id) c.args.self.now (sym (c.is_named.ensures tables indexes h) ∙ c.if-not-is_named.true)

pub returns : goal.returns
returns c = λ tables indexes h ids.
    dropped_by tables indexes c.args.self.now _ c.args.name.now c.args.id c.as_str.result.now c.is_named.result h ids (c.is_named.ensures tables indexes h)
    c.if-not-is_named.false c.as_str.ensures c.remove.ensures.updates c.remove-2.ensures.updates refl
