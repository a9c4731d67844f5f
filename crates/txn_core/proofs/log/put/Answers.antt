use Rattle.std.proofs.Common.{◌≡◌, Some, None, Option, ℕ, sym, ap, ◌∙◌}
use Rattle.std.proofs.lemmas.Result.{on_ok_weaker}
use Rattle.txn_core.specs.Logs.{place_touched, put_at}
use Rattle.txn_core.proofs.Logged.{touched_within}
use Rattle.txn_core.proofs.log.put.Goals as goal

pub set-requires : goal.set-requires
set-requires c =
    let place : place_touched c.args.touched.now c.args.document.id.raw ≡ Some c.in-Some.at = rw (← c.as_slice.ensures) (sym c.in-Some.ensures) in
    touched_within c.args.touched.now c.args.document.id.raw c.in-Some.at place

pub returns-in-Some : goal.returns-in-Some
returns-in-Some c =
    let place : place_touched c.args.touched.now c.args.document.id.raw ≡ Some c.in-Some.at = rw (← c.as_slice.ensures) (sym c.in-Some.ensures) in
    c.set.ensures ∙ ap (λ (o : Option ℕ). put_at o c.args.touched.now c.args.document) (sym place)

pub returns-in-None : goal.returns-in-None
returns-in-None c =
    let place : place_touched c.args.touched.now c.args.document.id.raw ≡ None = rw (← c.as_slice.ensures) (sym c.in-None.ensures) in
    on_ok_weaker c.push.result (λ e. e ∙ ap (λ (o : Option ℕ). put_at o c.args.touched.now c.args.document) (sym place)) c.push.ensures.ok
