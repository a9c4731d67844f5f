use Rattle.std.proofs.Common.{◌≡◌, ◌∙◌, ℕ, ◌+◌, ◌≤◌, ◌++◌, [], ◌∷◌, length, drop, sym, ap, subst, arith, length-append}
use Rattle.std.proofs.lemmas.Iterator.Adapters.{YieldsList-from_vec}
use Rattle.std.proofs.lemmas.Iterator.Consumers.{YieldsList-end, YieldsList-turn}
use Rattle.ledger_model.specs.Script.{each}
use Rattle.block_form.specs.ReadBack.{said_in}
use Rattle.value_codec.proofs.Each.{behind, each_all, each_more, each_none, start}
use Rattle.block_form.proofs.read_info.all_said.Goals as goal

pub statements-init : goal.statements-init
statements-init c = rw c.in_ok-said.ensures (start (each said_in c.args.values))

pub statements-preserved : goal.statements-preserved
statements-preserved c =
    let gives = c.into_iter-value-iterator.ensures.into_iter_gives in
    let same : c.into_vec-value-items.result.items ≡ c.args.values = c.into_vec-value-items.ensures in
    let all = YieldsList-from_vec {s = c.into_iter-value-iterator.result} c.args.values (gives.0 ∙ same) (gives.1 ∙ c.into_vec-value-items.result.ok.0 ∙ ap length same) in
    let turn = YieldsList-turn all c.statements.yielded c.statements.value-iterator c.statements.yielded_by c.next.result c.next.new.self c.in-Some.value c.in-Some.is c.next.ensures.steps in
    let more : length c.statements.yielded + 1 ≡ length (c.statements.yielded ++ c.in-Some.value ∷ []) = sym (length-append c.statements.yielded (c.in-Some.value ∷ [])) in
    let wanted = each said_in c.args.values in
    rw c.in_ok-push-in-Some-into_said.ensures.ok
    (subst (λ (n : ℕ). behind (c.statements.said ++ c.in-Some-into_said.one ∷ []) (each said_in (drop n c.args.values)) ≡ wanted) more
    (each_more said_in c.args.values c.statements.said wanted (length c.statements.yielded) c.in-Some.value c.in-Some-into_said.one c.statements.invariant turn.0 turn.1
    (sym c.into_said.ensures ∙ c.in-Some-into_said.is)))

pub returns-in-None-into_said : goal.returns-in-None-into_said
returns-in-None-into_said c =
    let gives = c.into_iter-value-iterator.ensures.into_iter_gives in
    let same : c.into_vec-value-items.result.items ≡ c.args.values = c.into_vec-value-items.ensures in
    let all = YieldsList-from_vec {s = c.into_iter-value-iterator.result} c.args.values (gives.0 ∙ same) (gives.1 ∙ c.into_vec-value-items.result.ok.0 ∙ ap length same) in
    let turn = YieldsList-turn all c.statements.yielded c.statements.value-iterator c.statements.yielded_by c.next.result c.next.new.self c.in-Some.value c.in-Some.is c.next.ensures.steps in
    each_none said_in c.args.values c.statements.said (each said_in c.args.values) (length c.statements.yielded) c.in-Some.value c.statements.invariant turn.0 turn.1
    (sym c.into_said.ensures ∙ c.in-None-into_said.is)

pub returns : goal.returns
returns c =
    let gives = c.into_iter-value-iterator.ensures.into_iter_gives in
    let same : c.into_vec-value-items.result.items ≡ c.args.values = c.into_vec-value-items.ensures in
    let all = YieldsList-from_vec {s = c.into_iter-value-iterator.result} c.args.values (gives.0 ∙ same) (gives.1 ∙ c.into_vec-value-items.result.ok.0 ∙ ap length same) in
    let end = YieldsList-end all c.statements.yielded c.statements.value-iterator c.statements.yielded_by c.next.result c.next.new.self c.in-None.is c.next.ensures.steps in
    let past : length c.args.values ≤ length c.statements.yielded = omega (arith, end.1) in
    each_all said_in c.args.values c.statements.said (each said_in c.args.values) (length c.statements.yielded) c.statements.invariant past
