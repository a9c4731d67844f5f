use Rattle.std.proofs.Common.{◌≡◌, ◌∙◌, ℕ, ◌+◌, ◌≤◌, ◌++◌, [], ◌∷◌, length, drop, sym, ap, subst, arith, length-append}
use Rattle.std.proofs.lemmas.Iterator.Adapters.{YieldsList-from_vec}
use Rattle.std.proofs.lemmas.Iterator.Consumers.{YieldsList-end, YieldsList-turn}
use Rattle.ledger_model.specs.Script.{each, request_of}
use Rattle.script_form.proofs.Each.{behind, each_all, each_more, each_none, start}
use Rattle.script_form.proofs.scripts.statements.all_requests.Goals as goal

pub requests-init : goal.requests-init
requests-init c = rw c.new-asked.ensures (start (each request_of c.args.values))

pub requests-preserved : goal.requests-preserved
requests-preserved c =
    let gives = c.into_iter-value-iterator.ensures.into_iter_gives in
    let same : c.into_vec-value-items.result.items ≡ c.args.values = c.into_vec-value-items.ensures in
    let all = YieldsList-from_vec {s = c.into_iter-value-iterator.result} c.args.values (gives.0 ∙ same) (gives.1 ∙ c.into_vec-value-items.result.ok.0 ∙ ap length same) in
    let turn = YieldsList-turn all c.requests.yielded c.requests.value-iterator c.requests.yielded_by c.next.result c.next.new.self c.in-Some.value c.in-Some.is c.next.ensures.steps in
    let more : length c.requests.yielded + 1 ≡ length (c.requests.yielded ++ c.in-Some.value ∷ []) = sym (length-append c.requests.yielded (c.in-Some.value ∷ [])) in
    let wanted = each request_of c.args.values in
    rw c.in_ok-push-in-Some-request_of.ensures.ok
    (subst (λ (n : ℕ). behind (c.requests.asked ++ c.in-Some-request_of.request ∷ []) (each request_of (drop n c.args.values)) ≡ wanted) more
    (each_more request_of c.args.values c.requests.asked wanted (length c.requests.yielded) c.in-Some.value c.in-Some-request_of.request c.requests.invariant turn.0 turn.1
    (sym c.request_of.ensures ∙ c.in-Some-request_of.is)))

pub returns-in-None-request_of : goal.returns-in-None-request_of
returns-in-None-request_of c =
    let gives = c.into_iter-value-iterator.ensures.into_iter_gives in
    let same : c.into_vec-value-items.result.items ≡ c.args.values = c.into_vec-value-items.ensures in
    let all = YieldsList-from_vec {s = c.into_iter-value-iterator.result} c.args.values (gives.0 ∙ same) (gives.1 ∙ c.into_vec-value-items.result.ok.0 ∙ ap length same) in
    let turn = YieldsList-turn all c.requests.yielded c.requests.value-iterator c.requests.yielded_by c.next.result c.next.new.self c.in-Some.value c.in-Some.is c.next.ensures.steps in
    each_none request_of c.args.values c.requests.asked (each request_of c.args.values) (length c.requests.yielded) c.in-Some.value c.requests.invariant turn.0 turn.1
    (sym c.request_of.ensures ∙ c.in-None-request_of.is)

pub returns : goal.returns
returns c =
    let gives = c.into_iter-value-iterator.ensures.into_iter_gives in
    let same : c.into_vec-value-items.result.items ≡ c.args.values = c.into_vec-value-items.ensures in
    let all = YieldsList-from_vec {s = c.into_iter-value-iterator.result} c.args.values (gives.0 ∙ same) (gives.1 ∙ c.into_vec-value-items.result.ok.0 ∙ ap length same) in
    let end = YieldsList-end all c.requests.yielded c.requests.value-iterator c.requests.yielded_by c.next.result c.next.new.self c.in-None.is c.next.ensures.steps in
    let past : length c.args.values ≤ length c.requests.yielded = omega (arith, end.1) in
    each_all request_of c.args.values c.requests.asked (each request_of c.args.values) (length c.requests.yielded) c.requests.invariant past
