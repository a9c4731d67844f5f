use Rattle.std.proofs.Common.{◌≡◌, Some, None, sym, ap, ◌∙◌}
use Rattle.std.proofs.lemmas.Result.{on_ok_weaker}
use Rattle.txn_core.specs.Seen.{place_in}
use Rattle.view_rows.specs.Seen.{drafts_seen}
use Rattle.txn_core.proofs.Overlaid.{seen-within, seen-put, seen-push}
use Rattle.txn_core.proofs.views.put.Goals as goal

pub set-requires : goal.set-requires
set-requires c =
    let place : place_in (drafts_seen c.args.documents.now) c.args.draft.id.raw ≡ Some c.in-Some.at = rw (← c.as_slice.ensures) (sym c.in-Some.ensures) in
    seen-within c.args.documents.now c.args.draft.id.raw c.in-Some.at place

pub returns-in-Some : goal.returns-in-Some
returns-in-Some c =
    let place : place_in (drafts_seen c.args.documents.now) c.args.draft.id.raw ≡ Some c.in-Some.at = rw (← c.as_slice.ensures) (sym c.in-Some.ensures) in
    ap drafts_seen c.set.ensures ∙ seen-put c.args.documents.now _ c.in-Some.at place

pub returns-in-None : goal.returns-in-None
returns-in-None c =
    let place : place_in (drafts_seen c.args.documents.now) c.args.draft.id.raw ≡ None = rw (← c.as_slice.ensures) (sym c.in-None.ensures) in
    on_ok_weaker c.push.result (λ e. ap drafts_seen e ∙ seen-push c.args.documents.now _ place) c.push.ensures.ok
