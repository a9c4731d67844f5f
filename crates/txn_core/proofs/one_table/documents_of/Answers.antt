use Rattle.std.proofs.Common.{List, ℕ, map, ap, sym, ◌∙◌}
use Rattle.std.specs.Prelude.{slice_get}
use Rattle.std.specs.List.{filter_map}
use Rattle.ledger_model.specs.declared.block.Draft.{Draft}
use Rattle.ledger_model.specs.State.{draft_of}
use Rattle.ledger_model.specs.Views.{latest_from, row_of}
use Rattle.versions.specs.Held.{drafts_lent}
use Rattle.view_rows.specs.Seen.{drafts_seen}
use Rattle.txn_core.specs.Layered.{standing}
use Rattle.txn_core.proofs.Layered.{layered_start, rows_layered}
use Rattle.txn_core.proofs.Logged.{latest_again}
use Rattle.txn_core.proofs.Overlaid.{latest_both}
use Rattle.txn_core.proofs.one_table.documents_of.Goals as goal

pub put_newest-requires : goal.put_newest-requires
put_newest-requires c =
    let documents : List Draft = standing c.args.base.now in
    layered_start c.args.table documents c.into_vec.result.items (drafts_seen c.into_vec-2.result.items) (drafts_seen c.new.result)
    (c.into_vec.ensures ∙ c.in_ok-places.ensures)
    (ap drafts_seen c.into_vec-2.ensures ∙ c.in_ok-documents.ensures ∙ ap drafts_lent c.as_slice-2.ensures ∙ c.in_ok-recorded.ensures.drafts
    ∙ ap (λ (places : List ℕ). filter_map (λ at. slice_get documents at) places) (c.as_slice.ensures ∙ sym c.into_vec.ensures))
    (ap drafts_seen c.new.ensures)

pub returns : goal.returns
returns c =
    let documents : List Draft = standing c.args.base.now in
    let p = c.put_newest.new.pass in
    ap (filter_map (row_of c.args.table)) c.in_ok-all.ensures
    ∙ rows_layered c.args.table documents p.places.items (drafts_seen p.documents.items) (drafts_seen p.later) _ c.in_ok-put_newest.ensures
    ∙ ap (filter_map (row_of c.args.table))
    (ap (latest_from documents) (ap (map (λ d. d.now)) c.as_slice-3.ensures ∙ c.in_ok-newest.ensures)
    ∙ latest_again documents c.args.log.now ∙ sym (latest_both (map draft_of c.args.base.now.revisions) c.args.log.now))
