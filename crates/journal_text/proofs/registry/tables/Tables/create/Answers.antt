use Rattle.std.proofs.Common.{◌∙◌, refl}
use Rattle.journal_text.proofs.TableSteps.{created_by}
use Rattle.journal_text.proofs.registry.tables.Tables.create.Goals as goal

pub returns : goal.returns
returns c = λ tables indexes h.
    created_by tables indexes c.args.self.now _ c.args.name.now c.args.id c.in_ok-name.name c.as_str.result.now c.contains_key.result h c.as_str.ensures c.contains_key.ensures
    c.if-contains_key.false (c.in_ok-name.ensures.ok ∙ c.as_str-2.ensures) c.in_ok-insert.ensures.updates c.in_ok-insert-2.ensures.updates refl
