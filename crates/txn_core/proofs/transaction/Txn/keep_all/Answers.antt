use Rattle.std.proofs.Common.{◌≡◌, ℕ, ◌+◌, ◌++◌, length, drop, [], ◌∷◌, sym, ap, subst, ◌∙◌, length-append}
use Rattle.std.proofs.lemmas.Iterator.Adapters.{YieldsList-from_vec}
use Rattle.std.proofs.lemmas.Iterator.Consumers.{YieldsList-turn}
use Rattle.ledger_model.specs.Writing.{stored_changes}
use Rattle.txn_core.specs.Effects.{effect_of}
use Rattle.txn_core.proofs.Walking.{changes_walk, left_over, none-walked, one-walked, one_changed, walk-stops, why_changed}
use Rattle.txn_core.proofs.transaction.Txn.keep_all.Goals as goal

pub documents-init : goal.documents-init
documents-init c = record {
  stands = c.in_ok-touching.ensures.stands;
  so_far =
      none-walked why_changed (one_changed c.args.self.now.base) c.args.self.now c.args.documents (effect_of c.in_ok-touching.touching.effect) c.in_ok-touching.ensures.nothing
      ∙ sym (changes_walk c.args.self.now.base c.args.documents c.args.self.now.done);
}

pub documents-preserved : goal.documents-preserved
documents-preserved c =
    let t = c.args.self.now in
    let gives = c.into_iter-document-iterator.ensures.into_iter_gives in
    let same : c.into_vec-document-items.result.items ≡ c.args.documents = c.into_vec-document-items.ensures in
    let turn = YieldsList-turn (YieldsList-from_vec {s = c.into_iter-document-iterator.result} c.args.documents (gives.0 ∙ same) (gives.1 ∙ c.into_vec-document-items.result.ok.0 ∙ ap length same))
    c.documents.yielded c.documents.document-iterator c.documents.yielded_by c.next.result c.next.new.self c.in-Some.document c.in-Some.is c.next.ensures.steps in
    let more : length c.documents.yielded + 1 ≡ length (c.documents.yielded ++ c.in-Some.document ∷ []) = sym (length-append c.documents.yielded (c.in-Some.document ∷ [])) in
    record {
      stands = c.in-Ok.ensures.1.stands;
      so_far =
          subst (λ (n : ℕ). left_over why_changed (one_changed t.base) t (effect_of c.keep.new.touching.effect) (drop n c.args.documents) ≡ stored_changes t.base t.done c.args.documents) more
          (one-walked why_changed (one_changed t.base) t (effect_of c.documents.touching.effect) c.args.documents (length c.documents.yielded) c.in-Some.document
          (stored_changes t.base t.done c.args.documents) turn.0 turn.1 c.documents.invariant.so_far (effect_of c.keep.new.touching.effect) c.in-Ok.ensures.0 c.in-Ok.ensures.1.effect);
    }

pub returns-in-Err : goal.returns-in-Err
returns-in-Err c =
    let t = c.args.self.now in
    let gives = c.into_iter-document-iterator.ensures.into_iter_gives in
    let same : c.into_vec-document-items.result.items ≡ c.args.documents = c.into_vec-document-items.ensures in
    let turn = YieldsList-turn (YieldsList-from_vec {s = c.into_iter-document-iterator.result} c.args.documents (gives.0 ∙ same) (gives.1 ∙ c.into_vec-document-items.result.ok.0 ∙ ap length same))
    c.documents.yielded c.documents.document-iterator c.documents.yielded_by c.next.result c.next.new.self c.in-Some.document c.in-Some.is c.next.ensures.steps in
    walk-stops why_changed (one_changed t.base) t (effect_of c.documents.touching.effect) c.args.documents (length c.documents.yielded) c.in-Some.document
    (stored_changes t.base t.done c.args.documents) turn.0 turn.1 c.documents.invariant.so_far c.in-Err.stopped c.in-Err.ensures
