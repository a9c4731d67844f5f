use Rattle.std.proofs.Common.{◌≡◌, Some, None, sym, ◌∙◌}
use Rattle.std.proofs.lemmas.Result.{on_ok_weaker}
use Rattle.txn_core.specs.Seen.{place_in}
use Rattle.txn_core.proofs.Overlaid.{place-within, put-at, put-new}
use Rattle.txn_core.proofs.views.put_draft.Goals as goal

pub set-requires : goal.set-requires
set-requires c =
    let place : place_in c.args.documents.now c.args.draft.id.raw ≡ Some c.in-Some.at = rw (← c.as_slice.ensures) (sym c.in-Some.ensures) in
    place-within c.args.documents.now c.args.draft.id.raw c.in-Some.at place

pub returns-in-Some : goal.returns-in-Some
returns-in-Some c =
    let place : place_in c.args.documents.now c.args.draft.id.raw ≡ Some c.in-Some.at = rw (← c.as_slice.ensures) (sym c.in-Some.ensures) in
    c.set.ensures ∙ sym (put-at c.args.documents.now c.args.draft c.in-Some.at place)

pub returns-in-None : goal.returns-in-None
returns-in-None c =
    let place : place_in c.args.documents.now c.args.draft.id.raw ≡ None = rw (← c.as_slice.ensures) (sym c.in-None.ensures) in
    on_ok_weaker c.push.result (λ e. e ∙ sym (put-new c.args.documents.now c.args.draft place)) c.push.ensures.ok
