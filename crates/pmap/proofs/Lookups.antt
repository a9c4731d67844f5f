-- What is looked up after a pair is put in or taken out.
use Rattle.std.proofs.Common.{◌≡◌, Bool, true, false, cond, List, [], ◌∷◌, Option, None, Some, refl, sym, ap, ◌∙◌}
use Rattle.std.specs.declared.cmp.Ordering.{Ordering}
use Rattle.std.specs.declared.cmp.Ordering.TheVariants.{Less, Equal, Greater}
use Rattle.std.specs.Ordering.{is_eq}
use Rattle.std.specs.Cmp.{IsTotalOrder}
use Rattle.std.specs.Map.{lookup, remove_entry}
use Rattle.std.specs.BTreeMap.{insert_entry, is_at}
use Rattle.std.proofs.lemmas.Cmp.{tied_itself}

equal_is : (o : Ordering) → is_eq o ≡ true → o ≡ Equal
equal_is Less h = cc
equal_is Equal h = refl
equal_is Greater h = cc

choose_by : {X : Type 0} (b c : Bool) (x y z : X) → (c ≡ true → b ≡ true → ⊥) → cond c y (cond b x z) ≡ cond b x (cond c y z)
choose_by true true x y z h = absurd (h refl refl)
choose_by true false x y z h = refl
choose_by false true x y z h = refl
choose_by false false x y z h = refl

twice : {X : Type 0} (b : Bool) (x y z : X) → cond b x (cond b y z) ≡ cond b x z
twice true x y z = refl
twice false x y z = refl

module _ {K : Type 0} (order : K → K → Ordering) (total : IsTotalOrder order) (same : (a b : K) → order a b ≡ Equal → a ≡ b) where
  pub is_same : (a b : K) → is_eq (order a b) ≡ true → a ≡ b
  is_same a b h = same a b (equal_is (order a b) h)

  pub is_itself : (a : K) → is_eq (order a a) ≡ true
  is_itself a = ap is_eq (tied_itself total a)

  apart : (key other k : K) → order key k ≡ Greater → is_eq (order other k) ≡ true → is_eq (order other key) ≡ true → ⊥
  apart key other k g e f =
      let one : key ≡ k = sym (is_same other key f) ∙ is_same other k e in
      let equal : order key k ≡ Equal = ap (λ x. order x k) one ∙ tied_itself total k in
      cc

module _ {K X : Type 0} (order : K → K → Ordering) (total : IsTotalOrder order) (same : (a b : K) → order a b ≡ Equal → a ≡ b) where
  put_by : (entry : K × X) (pairs : List (K × X)) (key : K) (value : X) (other : K) (o : Ordering) → order key entry.0 ≡ o
      → lookup (is_at (order other)) (insert_entry order pairs key value) ≡ cond (is_eq (order other key)) (Some value) (lookup (is_at (order other)) pairs)
      → lookup (is_at (order other)) (insert_entry order (entry ∷ pairs) key value)
      ≡ cond (is_eq (order other key)) (Some value) (lookup (is_at (order other)) (entry ∷ pairs))
  put_by entry pairs key value other Less e ih = rw e refl
  put_by entry pairs key value other Equal e ih =
      let one : key ≡ entry.0 = same key entry.0 e in
      let c = is_eq (order other entry.0) in
      let other_too : is_eq (order other key) ≡ c = ap (λ k. is_eq (order other k)) one in
      rw e (sym (rw other_too (twice c (Some value) (Some entry.1) (lookup (is_at (order other)) pairs))))
  put_by entry pairs key value other Greater e ih =
      let b = is_eq (order other key) in
      let c = is_eq (order other entry.0) in
      rw e (ap (cond c (Some entry.1)) ih
      ∙ choose_by b c (Some value) (Some entry.1) (lookup (is_at (order other)) pairs) (apart order total same key other entry.0 e))

  -- what a key has after a pair was put in
  pub lookup_put : (pairs : List (K × X)) (key : K) (value : X) (other : K)
      → lookup (is_at (order other)) (insert_entry order pairs key value) ≡ cond (is_eq (order other key)) (Some value) (lookup (is_at (order other)) pairs)
  lookup_put [] key value other = refl
  lookup_put (entry ∷ pairs) key value other = put_by entry pairs key value other (order key entry.0) refl (lookup_put pairs key value other)

  stays_by : (entry : K × X) (pairs : List (K × X)) (key other : K) (b : Bool) → is_eq (order key entry.0) ≡ b → is_eq (order other key) ≡ false
      → lookup (is_at (order other)) (remove_entry (is_at (order key)) pairs) ≡ lookup (is_at (order other)) pairs
      → lookup (is_at (order other)) (remove_entry (is_at (order key)) (entry ∷ pairs)) ≡ lookup (is_at (order other)) (entry ∷ pairs)
  stays_by entry pairs key other true e n ih =
      let other_too : is_eq (order other entry.0) ≡ false = ap (λ k. is_eq (order other k)) (sym (is_same order total same key entry.0 e)) ∙ n in
      rw (e, other_too) refl
  stays_by entry pairs key other false e n ih = rw e (ap (cond (is_eq (order other entry.0)) (Some entry.1)) ih)

  -- what a key has after another one's pair was taken out
  pub lookup_left : (pairs : List (K × X)) (key other : K) → is_eq (order other key) ≡ false
      → lookup (is_at (order other)) (remove_entry (is_at (order key)) pairs) ≡ lookup (is_at (order other)) pairs
  lookup_left [] key other n = refl
  lookup_left (entry ∷ pairs) key other n = stays_by entry pairs key other (is_eq (order key entry.0)) refl n (lookup_left pairs key other n)
