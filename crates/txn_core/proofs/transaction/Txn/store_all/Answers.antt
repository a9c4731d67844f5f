use Rattle.std.proofs.Common.{◌≡◌, ◌≤◌, ℕ, Err, rules, ◌+◌, ◌++◌, length, drop, [], ◌∷◌, sym, ap, subst, ◌∙◌, length-append, arith}
use Rattle.std.proofs.lemmas.Iterator.Adapters.{YieldsList-from_vec}
use Rattle.std.proofs.lemmas.Iterator.Consumers.{YieldsList-end, YieldsList-turn}
use Rattle.ledger_model.specs.Run.{stored}
use Rattle.txn_core.specs.Effects.{effect_of}
use Rattle.txn_core.proofs.Inserted.{all-stored, none-stored, not-stored, one-stored, rest_of}
use Rattle.txn_core.proofs.transaction.Txn.store_all.Goals as goal

pub documents-init : goal.documents-init
documents-init c = none-stored c.args.self.now c.args.table c.args.documents (effect_of c.new-effect.result) c.new-effect.ensures.nothing

pub documents-preserved : goal.documents-preserved
documents-preserved c =
    let t = c.args.self.now in
    let gives = c.into_iter-document-iterator.ensures.into_iter_gives in
    let same : c.into_vec-document-items.result.items ≡ c.args.documents = c.into_vec-document-items.ensures in
    let all = YieldsList-from_vec {s = c.into_iter-document-iterator.result} c.args.documents (gives.0 ∙ same) (gives.1 ∙ c.into_vec-document-items.result.ok.0 ∙ ap length same) in
    let turn = YieldsList-turn all c.documents.yielded c.documents.document-iterator c.documents.yielded_by c.next.result c.next.new.self c.in-Some.document c.in-Some.is c.next.ensures.steps in
    let more : length c.documents.yielded + 1 ≡ length (c.documents.yielded ++ c.in-Some.document ∷ []) = sym (length-append c.documents.yielded (c.in-Some.document ∷ [])) in
    subst (λ (n : ℕ). rest_of t c.args.table (effect_of c.store.new.effect) (drop n c.args.documents) ≡ stored t.begun c.args.table t.done c.args.documents) more
    (one-stored t c.args.table (effect_of c.documents.effect) c.args.documents (length c.documents.yielded) c.in-Some.document
    (stored t.begun c.args.table t.done c.args.documents) turn.0 turn.1 c.documents.invariant (effect_of c.store.new.effect) c.in_ok-store.ensures)

pub returns-in_err-store : goal.returns-in_err-store
returns-in_err-store c =
    let t = c.args.self.now in
    let gives = c.into_iter-document-iterator.ensures.into_iter_gives in
    let same : c.into_vec-document-items.result.items ≡ c.args.documents = c.into_vec-document-items.ensures in
    let all = YieldsList-from_vec {s = c.into_iter-document-iterator.result} c.args.documents (gives.0 ∙ same) (gives.1 ∙ c.into_vec-document-items.result.ok.0 ∙ ap length same) in
    let turn = YieldsList-turn all c.documents.yielded c.documents.document-iterator c.documents.yielded_by c.next.result c.next.new.self c.in-Some.document c.in-Some.is c.next.ensures.steps in
    let is : c.from_residual.result ≡ Err c.in_err-store.field-0.0 = search rules in
    rw is (not-stored t c.args.table (effect_of c.documents.effect) c.args.documents (length c.documents.yielded) c.in-Some.document
    (stored t.begun c.args.table t.done c.args.documents) turn.0 turn.1 c.documents.invariant c.in_err-store.field-0.0
    (effect_of c.store.new.effect) c.in_err-store.ensures)

pub returns : goal.returns
returns c =
    let t = c.args.self.now in
    let gives = c.into_iter-document-iterator.ensures.into_iter_gives in
    let same : c.into_vec-document-items.result.items ≡ c.args.documents = c.into_vec-document-items.ensures in
    let all = YieldsList-from_vec {s = c.into_iter-document-iterator.result} c.args.documents (gives.0 ∙ same) (gives.1 ∙ c.into_vec-document-items.result.ok.0 ∙ ap length same) in
    let end = YieldsList-end all c.documents.yielded c.documents.document-iterator c.documents.yielded_by c.next.result c.next.new.self c.in-None.is c.next.ensures.steps in
    let past : length c.args.documents ≤ length c.documents.yielded = omega (arith, end.1) in
    all-stored t c.args.table (effect_of c.documents.effect) c.args.documents (length c.documents.yielded)
    (stored t.begun c.args.table t.done c.args.documents) past c.documents.invariant
