-- Lists of transactions, and what holds of each of them.
use Rattle.std.proofs.Common.{◌≡◌, ℕ, ◌==◌, Bool, true, false, not, cond, List, [], ◌∷◌, Option, Some, refl, subst, if◌then◌else◌}
use Rattle.std.specs.List.{AllByRecursion}
use Rattle.std.proofs.lemmas.Bool.{eqb-true, eqb-false}
use Rattle.laws_machine.specs.Machine.{Transaction, named, replaced, without}

module _ (P : Transaction → Type 0) where
  found_by : (b : Bool) (n : ℕ) (t x : Transaction) (rest : Option Transaction) → (t.number == n) ≡ b → P t
      → (rest ≡ Some x → P x × (x.number ≡ n)) → (if b then Some t else rest) ≡ Some x → P x × (x.number ≡ n)
  found_by true n t x rest e p k h =
      let same : t ≡ x = cc h in
      subst (λ y. P y × (y.number ≡ n)) same (p, eqb-true t.number n e)
  found_by false n t x rest e p k h = k h

  -- the one that is named is one of them
  pub found : (n : ℕ) (ts : List Transaction) (x : Transaction) → AllByRecursion P ts → named n ts ≡ Some x
      → P x × (x.number ≡ n)
  found n [] x k h = cc h
  found n (t ∷ ts) x k h = found_by (t.number == n) n t x (named n ts) refl k.0 (found n ts x k.1) h

  replaced_by : (b : Bool) (new t : Transaction) (ts more : List Transaction) → P new → P t → AllByRecursion P ts
      → AllByRecursion P more → AllByRecursion P (if b then new ∷ ts else t ∷ more)
  replaced_by true new t ts more p q k m = (p, k)
  replaced_by false new t ts more p q k m = (q, m)

  pub all_replaced : (new : Transaction) (ts : List Transaction) → P new → AllByRecursion P ts
      → AllByRecursion P (replaced new ts)
  all_replaced new [] p k = tt
  all_replaced new (t ∷ ts) p k =
      replaced_by (t.number == new.number) new t ts (replaced new ts) p k.0 k.1 (all_replaced new ts p k.1)

module _ (P Q : Transaction → Type 0) (n : ℕ) (f : (t : Transaction) → (t.number ≡ n → ⊥) → P t → Q t) where
  kept_by : (b : Bool) (t : Transaction) (ts : List Transaction) → (t.number == n) ≡ b → P t → AllByRecursion Q ts
      → AllByRecursion Q (cond (not b) (t ∷ ts) ts)
  kept_by true t ts e p k = k
  kept_by false t ts e p k = (f t (eqb-false t.number n e) p, k)

  -- those that are left have another number
  pub all_without : (ts : List Transaction) → AllByRecursion P ts → AllByRecursion Q (without n ts)
  all_without [] k = tt
  all_without (t ∷ ts) k = kept_by (t.number == n) t (without n ts) refl k.0 (all_without ts k.1)
