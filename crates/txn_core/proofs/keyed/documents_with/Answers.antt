use Rattle.std.proofs.Common.{◌≡◌, ◌==◌, List, [], length, ap, ◌∙◌, sym}
use Rattle.ledger_model.specs.declared.block.Draft.{Draft}
use Rattle.versions.specs.Held.{drafts_lent}
use Rattle.view_rows.specs.Seen.{drafts_seen}
use Rattle.txn_core.proofs.KeyedRows.{none_pend, rows_keyed}
use Rattle.txn_core.proofs.keyed.documents_with.Goals as goal

pub returns : goal.returns
returns c =
    let none : c.args.log.now ≡ [] =
    none_pend c.args.log.now (ap (λ (ds : List Draft). length ds == 0) (sym c.as_slice.ensures) ∙ sym c.is_empty.ensures ∙ c.if-not-is_empty.false) in
    rows_keyed c.args.base.now c.args.log.now c.args.table c.args.probe.now c.in-Some.wanted (drafts_seen c.in_ok-documents.documents) none
    c.in-Some.ensures (c.in_ok-documents.ensures ∙ ap drafts_lent c.as_slice-2.ensures ∙ c.in_ok-recorded.ensures)
