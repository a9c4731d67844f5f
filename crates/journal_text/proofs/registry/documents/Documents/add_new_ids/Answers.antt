use Rattle.std.proofs.Common.{◌+◌, arith}
use Rattle.ledger_model.specs.Follows.{is_new}
use Rattle.journal_text.proofs.Passes.{new_next}
use Rattle.journal_text.proofs.registry.documents.Documents.add_new_ids.Goals as goal

pub revisions-preserved : goal.revisions-preserved
revisions-preserved c = λ before h.
    new_next (is_new before) c.args.ids.now.items c.revisions.ids.items c.add_if_new.new.ids.items c.args.revisions.now c.revisions.revision-index (c.revisions.revision-index + 1)
    c.revision-item.result (omega arith) (omega arith) c.revision-item.is (c.revisions.invariant before h) (c.in_ok-add_if_new.ensures before h)
