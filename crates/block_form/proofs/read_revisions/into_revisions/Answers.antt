use Rattle.std.proofs.Common.{◌≡◌, ◌∙◌, ℕ, ◌+◌, ◌≤◌, ◌++◌, [], ◌∷◌, length, drop, sym, ap, subst, arith, length-append}
use Rattle.std.proofs.lemmas.Iterator.Adapters.{YieldsList-from_vec}
use Rattle.std.proofs.lemmas.Iterator.Consumers.{YieldsList-end, YieldsList-turn}
use Rattle.ledger_model.specs.Script.{each}
use Rattle.block_form.specs.ReadBack.{revision_in}
use Rattle.value_codec.proofs.Each.{behind, each_all, each_more, each_none, start}
use Rattle.block_form.proofs.read_revisions.into_revisions.Goals as goal

pub revisions-init : goal.revisions-init
revisions-init c = rw c.in_ok-revisions.ensures (start (each revision_in c.args.values))

pub revisions-preserved : goal.revisions-preserved
revisions-preserved c =
    let gives = c.into_iter-value-iterator.ensures.into_iter_gives in
    let same : c.into_vec-value-items.result.items ≡ c.args.values = c.into_vec-value-items.ensures in
    let all = YieldsList-from_vec {s = c.into_iter-value-iterator.result} c.args.values (gives.0 ∙ same) (gives.1 ∙ c.into_vec-value-items.result.ok.0 ∙ ap length same) in
    let turn = YieldsList-turn all c.revisions.yielded c.revisions.value-iterator c.revisions.yielded_by c.next.result c.next.new.self c.in-Some.value c.in-Some.is c.next.ensures.steps in
    let more : length c.revisions.yielded + 1 ≡ length (c.revisions.yielded ++ c.in-Some.value ∷ []) = sym (length-append c.revisions.yielded (c.in-Some.value ∷ [])) in
    let wanted = each revision_in c.args.values in
    rw c.in_ok-push-in-Some-into_revision.ensures.ok
    (subst (λ (n : ℕ). behind (c.revisions.revisions ++ c.in-Some-into_revision.revision ∷ []) (each revision_in (drop n c.args.values)) ≡ wanted) more
    (each_more revision_in c.args.values c.revisions.revisions wanted (length c.revisions.yielded) c.in-Some.value c.in-Some-into_revision.revision c.revisions.invariant turn.0 turn.1
    (sym c.into_revision.ensures ∙ c.in-Some-into_revision.is)))

pub returns-in-None-into_revision : goal.returns-in-None-into_revision
returns-in-None-into_revision c =
    let gives = c.into_iter-value-iterator.ensures.into_iter_gives in
    let same : c.into_vec-value-items.result.items ≡ c.args.values = c.into_vec-value-items.ensures in
    let all = YieldsList-from_vec {s = c.into_iter-value-iterator.result} c.args.values (gives.0 ∙ same) (gives.1 ∙ c.into_vec-value-items.result.ok.0 ∙ ap length same) in
    let turn = YieldsList-turn all c.revisions.yielded c.revisions.value-iterator c.revisions.yielded_by c.next.result c.next.new.self c.in-Some.value c.in-Some.is c.next.ensures.steps in
    each_none revision_in c.args.values c.revisions.revisions (each revision_in c.args.values) (length c.revisions.yielded) c.in-Some.value c.revisions.invariant turn.0 turn.1
    (sym c.into_revision.ensures ∙ c.in-None-into_revision.is)

pub returns : goal.returns
returns c =
    let gives = c.into_iter-value-iterator.ensures.into_iter_gives in
    let same : c.into_vec-value-items.result.items ≡ c.args.values = c.into_vec-value-items.ensures in
    let all = YieldsList-from_vec {s = c.into_iter-value-iterator.result} c.args.values (gives.0 ∙ same) (gives.1 ∙ c.into_vec-value-items.result.ok.0 ∙ ap length same) in
    let end = YieldsList-end all c.revisions.yielded c.revisions.value-iterator c.revisions.yielded_by c.next.result c.next.new.self c.in-None.is c.next.ensures.steps in
    let past : length c.args.values ≤ length c.revisions.yielded = omega (arith, end.1) in
    each_all revision_in c.args.values c.revisions.revisions (each revision_in c.args.values) (length c.revisions.yielded) c.revisions.invariant past
