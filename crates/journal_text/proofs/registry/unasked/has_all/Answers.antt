use Rattle.std.proofs.Common.{◌∙◌, ◌+◌, ap, refl, sym, arith}
use Rattle.std.specs.List.{list_all}
use Rattle.ledger_model.specs.HashesAsked.{has_asked_data}
use Rattle.ledger_model.specs.State.{recorded_in}
use Rattle.journal_text.proofs.Recorded.{none_behind, pass_next, pass_stops}
use Rattle.journal_text.proofs.registry.unasked.has_all.Goals as goal

pub returns-then-not-has_asked_data : goal.returns-then-not-has_asked_data
returns-then-not-has_asked_data c = λ blocks h.
    let passes = has_asked_data blocks in
    pass_stops passes c.as_slice-tables.result.now c.as_slice-revisions.result.now c.revisions.at _ _ c.index-revisions-at.result _ (omega arith) refl c.index-revisions-at.is
    (c.revisions.invariant blocks h) (sym (c.has_asked_data.ensures blocks h) ∙ c.if-not-has_asked_data.true)
    ∙ ap (λ ts. list_all passes (recorded_in ts c.as_slice-revisions.result.now)) c.as_slice-tables.ensures
    ∙ ap (λ rs. list_all passes (recorded_in c.args.block.now.info.tables rs)) c.as_slice-revisions.ensures

pub revisions-preserved : goal.revisions-preserved
revisions-preserved c = λ blocks h.
    pass_next (has_asked_data blocks) c.as_slice-tables.result.now c.as_slice-revisions.result.now c.revisions.at (c.revisions.at + 1) _ _
    c.index-revisions-at.result _ (omega arith) (omega arith) refl c.index-revisions-at.is (c.revisions.invariant blocks h)
    (sym (c.has_asked_data.ensures blocks h) ∙ c.if-not-has_asked_data.false)

pub returns : goal.returns
returns c = λ blocks h.
    let passes = has_asked_data blocks in
    sym (ap (list_all passes) (none_behind c.as_slice-tables.result.now c.as_slice-revisions.result.now c.revisions.at (omega arith)))
    ∙ c.revisions.invariant blocks h
    ∙ ap (λ ts. list_all passes (recorded_in ts c.as_slice-revisions.result.now)) c.as_slice-tables.ensures
    ∙ ap (λ rs. list_all passes (recorded_in c.args.block.now.info.tables rs)) c.as_slice-revisions.ensures
