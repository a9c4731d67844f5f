use Rattle.std.proofs.Common.{List, ap, subst, ◌∙◌}
use Rattle.ledger_model.specs.declared.block.Draft.{Draft}
use Rattle.ledger_model.specs.Views.{put}
use Rattle.view_rows.specs.Seen.{drafts_seen}
use Rattle.txn_core.specs.Layered.{IsPass, standing}
use Rattle.txn_core.proofs.Layered.{newest_next, spots}
use Rattle.txn_core.proofs.one_table.put_newest.Goals as goal

pub put_over-requires : goal.put_over-requires
put_over-requires c =
    let p = c.newest.pass in
    spots c.args.table (standing c.args.base.now) p.places.items (drafts_seen p.documents.items) (drafts_seen p.later) _ c.newest.invariant

pub newest-preserved : goal.newest-preserved
newest-preserved c =
    let documents : List Draft = standing c.args.base.now in
    subst (λ (ds : List Draft). IsPass c.args.table c.args.base.now c.put_over.new.pass ds)
    (ap (put _) c.pending.ensures ∙ newest_next documents c.args.newest.now c.newest.draft-index c.draft-item.result c.newest-test.true c.draft-item.is)
    (c.in_ok-put_over.ensures _ c.newest.invariant)
