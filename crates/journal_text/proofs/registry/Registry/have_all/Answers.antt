use Rattle.std.proofs.Common.{◌∙◌, ◌+◌, ap, refl, sym, arith}
use Rattle.std.specs.List.{list_all}
use Rattle.ledger_model.specs.State.{recorded_in, state}
use Rattle.ledger_model.specs.Follows.{revision_follows}
use Rattle.journal_text.proofs.Recorded.{none_behind, pass_next, pass_stops}
use Rattle.journal_text.proofs.registry.Registry.have_all.Goals as goal

pub returns-then-not-has_revision : goal.returns-then-not-has_revision
returns-then-not-has_revision c = λ strand before h keys.
    let passes = revision_follows (state before) c.args.block.now in
    pass_stops passes c.as_slice-tables.result.now c.as_slice-revisions.result.now c.revisions.at _ _ c.index-revisions-at.result _ (omega arith) refl c.index-revisions-at.is
    (c.revisions.invariant strand before h keys) (sym (c.has_revision.ensures strand before h keys) ∙ c.if-not-has_revision.true)
    ∙ ap (λ ts. list_all passes (recorded_in ts c.as_slice-revisions.result.now)) c.as_slice-tables.ensures
    ∙ ap (λ rs. list_all passes (recorded_in c.args.block.now.info.tables rs)) c.as_slice-revisions.ensures

pub revisions-preserved : goal.revisions-preserved
revisions-preserved c = λ strand before h keys.
    pass_next (revision_follows (state before) c.args.block.now) c.as_slice-tables.result.now c.as_slice-revisions.result.now c.revisions.at (c.revisions.at + 1) _ _
    c.index-revisions-at.result _ (omega arith) (omega arith) refl c.index-revisions-at.is (c.revisions.invariant strand before h keys)
    (sym (c.has_revision.ensures strand before h keys) ∙ c.if-not-has_revision.false)

pub returns : goal.returns
returns c = λ strand before h keys.
    let passes = revision_follows (state before) c.args.block.now in
    sym (ap (list_all passes) (none_behind c.as_slice-tables.result.now c.as_slice-revisions.result.now c.revisions.at (omega arith)))
    ∙ c.revisions.invariant strand before h keys
    ∙ ap (λ ts. list_all passes (recorded_in ts c.as_slice-revisions.result.now)) c.as_slice-tables.ensures
    ∙ ap (λ rs. list_all passes (recorded_in c.args.block.now.info.tables rs)) c.as_slice-revisions.ensures
