use Rattle.std.proofs.Common.{◌+◌, arith}
use Rattle.journal_text.proofs.Passes.{documents_next}
use Rattle.journal_text.proofs.registry.ids.of_documents.Goals as goal

pub revisions-preserved : goal.revisions-preserved
revisions-preserved c =
    documents_next c.revisions.ids.items _ c.args.revisions.now c.revisions.revision-index (c.revisions.revision-index + 1) c.revision-item.result (omega arith) (omega arith)
    c.revision-item.is c.revisions.invariant c.in_ok-push.ensures.items
