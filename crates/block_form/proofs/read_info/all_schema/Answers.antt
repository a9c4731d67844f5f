use Rattle.std.proofs.Common.{◌≡◌, ◌∙◌, ℕ, ◌+◌, ◌≤◌, ◌++◌, [], ◌∷◌, length, drop, sym, ap, subst, arith, length-append}
use Rattle.std.proofs.lemmas.Iterator.Adapters.{YieldsList-from_vec}
use Rattle.std.proofs.lemmas.Iterator.Consumers.{YieldsList-end, YieldsList-turn}
use Rattle.ledger_model.specs.Script.{each}
use Rattle.block_form.specs.ReadBack.{schema_in}
use Rattle.value_codec.proofs.Each.{behind, each_all, each_more, each_none, start}
use Rattle.block_form.proofs.read_info.all_schema.Goals as goal

pub changes-init : goal.changes-init
changes-init c = rw c.in_ok-schema.ensures (start (each schema_in c.args.values))

pub changes-preserved : goal.changes-preserved
changes-preserved c =
    let gives = c.into_iter-value-iterator.ensures.into_iter_gives in
    let same : c.into_vec-value-items.result.items ≡ c.args.values = c.into_vec-value-items.ensures in
    let all = YieldsList-from_vec {s = c.into_iter-value-iterator.result} c.args.values (gives.0 ∙ same) (gives.1 ∙ c.into_vec-value-items.result.ok.0 ∙ ap length same) in
    let turn = YieldsList-turn all c.changes.yielded c.changes.value-iterator c.changes.yielded_by c.next.result c.next.new.self c.in-Some.value c.in-Some.is c.next.ensures.steps in
    let more : length c.changes.yielded + 1 ≡ length (c.changes.yielded ++ c.in-Some.value ∷ []) = sym (length-append c.changes.yielded (c.in-Some.value ∷ [])) in
    let wanted = each schema_in c.args.values in
    rw c.in_ok-push-in-Some-into_schema.ensures.ok
    (subst (λ (n : ℕ). behind (c.changes.schema ++ c.in-Some-into_schema.change ∷ []) (each schema_in (drop n c.args.values)) ≡ wanted) more
    (each_more schema_in c.args.values c.changes.schema wanted (length c.changes.yielded) c.in-Some.value c.in-Some-into_schema.change c.changes.invariant turn.0 turn.1
    (sym c.into_schema.ensures ∙ c.in-Some-into_schema.is)))

pub returns-in-None-into_schema : goal.returns-in-None-into_schema
returns-in-None-into_schema c =
    let gives = c.into_iter-value-iterator.ensures.into_iter_gives in
    let same : c.into_vec-value-items.result.items ≡ c.args.values = c.into_vec-value-items.ensures in
    let all = YieldsList-from_vec {s = c.into_iter-value-iterator.result} c.args.values (gives.0 ∙ same) (gives.1 ∙ c.into_vec-value-items.result.ok.0 ∙ ap length same) in
    let turn = YieldsList-turn all c.changes.yielded c.changes.value-iterator c.changes.yielded_by c.next.result c.next.new.self c.in-Some.value c.in-Some.is c.next.ensures.steps in
    each_none schema_in c.args.values c.changes.schema (each schema_in c.args.values) (length c.changes.yielded) c.in-Some.value c.changes.invariant turn.0 turn.1
    (sym c.into_schema.ensures ∙ c.in-None-into_schema.is)

pub returns : goal.returns
returns c =
    let gives = c.into_iter-value-iterator.ensures.into_iter_gives in
    let same : c.into_vec-value-items.result.items ≡ c.args.values = c.into_vec-value-items.ensures in
    let all = YieldsList-from_vec {s = c.into_iter-value-iterator.result} c.args.values (gives.0 ∙ same) (gives.1 ∙ c.into_vec-value-items.result.ok.0 ∙ ap length same) in
    let end = YieldsList-end all c.changes.yielded c.changes.value-iterator c.changes.yielded_by c.next.result c.next.new.self c.in-None.is c.next.ensures.steps in
    let past : length c.args.values ≤ length c.changes.yielded = omega (arith, end.1) in
    each_all schema_in c.args.values c.changes.schema (each schema_in c.args.values) (length c.changes.yielded) c.changes.invariant past
