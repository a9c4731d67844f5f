use Rattle.std.proofs.Common.{List, sym, subst}
use Rattle.std.proofs.lemmas.Result.{on_ok_weaker}
use Rattle.ledger_model.specs.declared.block.Draft.{Draft}
use Rattle.ledger_model.specs.Views.{put}
use Rattle.view_rows.specs.Seen.{draft_seen, drafts_seen}
use Rattle.txn_core.specs.Layered.{IsLayered, standing}
use Rattle.txn_core.proofs.Layered.{layered_new}
use Rattle.txn_core.proofs.one_table.put_over.Goals as goal

pub returns-in-Some : goal.returns-in-Some
returns-in-Some c =
    on_ok_weaker c.put_at.result (λ keeps all l. keeps (standing c.args.base.now) (drafts_seen c.args.pass.now.later) all (sym c.in-Some.ensures) l) c.put_at.ensures

pub returns-in-None : goal.returns-in-None
returns-in-None c =
    let p = c.args.pass.now in
    on_ok_weaker c.put.result (λ e all l.
    subst (λ (xs : List Draft). IsLayered c.args.table (standing c.args.base.now) p.places.items (drafts_seen p.documents.items) xs (put all (draft_seen c.args.draft)))
    (sym e)
    (layered_new c.args.table (standing c.args.base.now) p.places.items (drafts_seen p.documents.items) (drafts_seen p.later) all (draft_seen c.args.draft)
    (sym c.in-None.ensures) l)) c.put.ensures
