use Rattle.std.proofs.Common.{◌++◌, List, get_or, refl, ap, arith}
use Rattle.ledger_model.specs.declared.block.Revision.{Revision}
use Rattle.ledger_model.specs.Compaction as spec
use Rattle.redact_tool.proofs.Parts.{revision_more, revisions_end}
use Rattle.redact_tool.proofs.compacting.shown_revisions.Goals as goal

pub each-init : goal.each-init
each-init c = λ blocks h.
    ap (λ (rs : List Revision). rs ++ spec.shown_revisions blocks c.args.tables.now c.args.revisions.now)
    c.new-shown.ensures

pub each-preserved : goal.each-preserved
each-preserved c = λ blocks h.
    revision_more blocks c.args.tables.now c.args.revisions.now c.each.at _ (get_or c.args.tables.now c.each.at _)
    c.index-revisions-at.result _ c.each.shown _ (omega arith) (omega arith) refl c.index-revisions-at.is
    (c.each.invariant blocks h) (c.in_ok-shown_revision.ensures blocks h) c.in_ok-push.ensures.ok

pub returns : goal.returns
returns c = λ blocks h.
    revisions_end blocks c.args.tables.now c.args.revisions.now c.each.at c.each.shown (omega arith) (omega arith)
    (c.each.invariant blocks h)
