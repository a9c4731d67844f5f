use Rattle.std.proofs.Common.{◌≡◌, ◌∙◌, ℕ, ◌+◌, ◌≤◌, ◌++◌, [], ◌∷◌, length, drop, rules, sym, ap, subst, arith, length-append}
use Rattle.std.proofs.lemmas.Iterator.Adapters.{YieldsList-from_vec}
use Rattle.std.proofs.lemmas.Iterator.Consumers.{YieldsList-end, YieldsList-turn}
use Rattle.ledger_model.specs.ReadScript.{named}
use Rattle.script_form.proofs.Each.{named_at, named_more, named_nowhere}
use Rattle.script_form.proofs.scripts.fields.into_named.Goals as goal

pub fields-preserved : goal.fields-preserved
fields-preserved c =
    let gives = c.into_iter-field-iterator.ensures.into_iter_gives in
    let same : c.into_vec-field-items.result.items ≡ c.args.fields = c.into_vec-field-items.ensures in
    let all = YieldsList-from_vec {s = c.into_iter-field-iterator.result} c.args.fields (gives.0 ∙ same) (gives.1 ∙ c.into_vec-field-items.result.ok.0 ∙ ap length same) in
    let turn = YieldsList-turn all c.fields.yielded c.fields.field-iterator c.fields.yielded_by c.next.result c.next.new.self c.in-Some.field c.in-Some.is c.next.ensures.steps in
    let more : length c.fields.yielded + 1 ≡ length (c.fields.yielded ++ c.in-Some.field ∷ []) = sym (length-append c.fields.yielded (c.in-Some.field ∷ [])) in
    let wanted = named c.args.name.now c.args.fields in
    subst (λ (n : ℕ). named c.args.name.now (drop n c.args.fields) ≡ wanted) more
    (named_more c.args.name.now c.args.fields (length c.fields.yielded) wanted c.fields.invariant c.in-Some.field turn.0 turn.1 (cc))

pub returns-then-eq : goal.returns-then-eq
returns-then-eq c =
    let gives = c.into_iter-field-iterator.ensures.into_iter_gives in
    let same : c.into_vec-field-items.result.items ≡ c.args.fields = c.into_vec-field-items.ensures in
    let all = YieldsList-from_vec {s = c.into_iter-field-iterator.result} c.args.fields (gives.0 ∙ same) (gives.1 ∙ c.into_vec-field-items.result.ok.0 ∙ ap length same) in
    let turn = YieldsList-turn all c.fields.yielded c.fields.field-iterator c.fields.yielded_by c.next.result c.next.new.self c.in-Some.field c.in-Some.is c.next.ensures.steps in
    named_at c.args.name.now c.args.fields (length c.fields.yielded) (named c.args.name.now c.args.fields) c.fields.invariant c.in-Some.field turn.0 turn.1 (search rules)

pub returns : goal.returns
returns c =
    let gives = c.into_iter-field-iterator.ensures.into_iter_gives in
    let same : c.into_vec-field-items.result.items ≡ c.args.fields = c.into_vec-field-items.ensures in
    let all = YieldsList-from_vec {s = c.into_iter-field-iterator.result} c.args.fields (gives.0 ∙ same) (gives.1 ∙ c.into_vec-field-items.result.ok.0 ∙ ap length same) in
    let end = YieldsList-end all c.fields.yielded c.fields.field-iterator c.fields.yielded_by c.next.result c.next.new.self c.in-None.is c.next.ensures.steps in
    let past : length c.args.fields ≤ length c.fields.yielded = omega (arith, end.1) in
    named_nowhere c.args.name.now c.args.fields (length c.fields.yielded) (named c.args.name.now c.args.fields) c.fields.invariant past
