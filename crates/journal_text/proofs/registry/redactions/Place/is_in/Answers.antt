use Rattle.std.proofs.Common.{◌∙◌, ◌+◌, Bool, ap, refl, sym, arith}
use Rattle.std.specs.List.{list_any}
use Rattle.ledger_model.specs.declared.block.Schema.TheVariants.{Redact}
use Rattle.ledger_model.specs.State.{Recorded, recorded_in, redacts}
use Rattle.journal_text.proofs.Recorded.{any_next, any_stops, none_behind}
use Rattle.journal_text.proofs.registry.redactions.Place.is_in.Goals as goal

pub returns-then-is : goal.returns-then-is
returns-then-is c =
    let named : Recorded → Bool = λ r. redacts r (Redact c.args.self.now.address c.args.self.now.table c.args.self.now.document) in
    any_stops named c.as_slice-tables.result.now c.as_slice-revisions.result.now c.revisions.at _ _ c.index-revisions-at.result _ (omega arith) refl c.index-revisions-at.is
    c.revisions.invariant (sym c.is.ensures ∙ c.if-is.true)
    ∙ ap (λ ts. list_any named (recorded_in ts c.as_slice-revisions.result.now)) c.as_slice-tables.ensures
    ∙ ap (λ rs. list_any named (recorded_in c.args.block.now.info.tables rs)) c.as_slice-revisions.ensures

pub revisions-preserved : goal.revisions-preserved
revisions-preserved c =
    let named : Recorded → Bool = λ r. redacts r (Redact c.args.self.now.address c.args.self.now.table c.args.self.now.document) in
    any_next named c.as_slice-tables.result.now c.as_slice-revisions.result.now c.revisions.at (c.revisions.at + 1) _ _ c.index-revisions-at.result _ (omega arith) (omega arith) refl
    c.index-revisions-at.is c.revisions.invariant (sym c.is.ensures ∙ c.if-is.false)

pub returns : goal.returns
returns c =
    let named : Recorded → Bool = λ r. redacts r (Redact c.args.self.now.address c.args.self.now.table c.args.self.now.document) in
    sym (ap (list_any named) (none_behind c.as_slice-tables.result.now c.as_slice-revisions.result.now c.revisions.at (omega arith)))
    ∙ c.revisions.invariant
    ∙ ap (λ ts. list_any named (recorded_in ts c.as_slice-revisions.result.now)) c.as_slice-tables.ensures
    ∙ ap (λ rs. list_any named (recorded_in c.args.block.now.info.tables rs)) c.as_slice-revisions.ensures
