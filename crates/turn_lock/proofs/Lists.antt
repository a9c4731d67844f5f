-- Lists, their beginnings and their weights.
use Rattle.std.proofs.Common.{◌≡◌, ◌≢◌, ◌⊎◌, ℕ, zero, suc, ◌+◌, ◌<◌, ◌≤◌, List, [], ◌∷◌, ◌++◌, map, length, get_or, set, sym, refl, ap, ◌∙◌, subst, inl, inr, ⊎_elim, arith, Option, Some, None, slice_get, append-nil, append_assoc, length-append}
use mathlib.Core.Option.{some, some-injective, some-ne-none}
use mathlib.Core.List.{IsPrefix}
use lib.ListN.{get_elem?}
use Rattle.atomic_table.proofs.Lists.{at_set, at_snoc}
use Rattle.turn_lock.specs.History.{Stands}
use Rattle.turn_lock.specs.Rule.{weigh, Each}

module _ {A : Type 0} where
  pub prefix_self : (xs : List A) → IsPrefix xs xs
  prefix_self [] = ([], refl)
  prefix_self (x ∷ xs) = (let r = prefix_self xs in r.0, ap (λ ys. x ∷ ys) (prefix_self xs).1)

  pub prefix_trans : (xs ys zs : List A) → IsPrefix xs ys → IsPrefix ys zs → IsPrefix xs zs
  prefix_trans xs ys zs p q = (p.0 ++ q.0, sym (append_assoc xs p.0 q.0) ∙ (ap (λ w. w ++ q.0) p.1 ∙ q.1))

  pub prefix_longer : (xs ys zs : List A) → IsPrefix xs ys → IsPrefix xs (ys ++ zs)
  prefix_longer xs ys zs p = prefix_trans xs ys (ys ++ zs) p (zs, refl)

  pub prefix_length : (xs ys : List A) → IsPrefix xs ys → length xs ≤ length ys
  prefix_length xs ys p = omega (arith, sym (ap length p.1) ∙ length-append xs p.0)

  -- what stands in a beginning stands in the whole, at the same place
  pub prefix_get : (xs ys : List A) (k : ℕ) (x : A) → IsPrefix xs ys → slice_get xs k ≡ Some x → slice_get ys k ≡ Some x
  prefix_get [] ys k x p h = absurd cc
  prefix_get (y ∷ xs) [] k x p h = absurd (cc (p.1))
  prefix_get (y ∷ xs) (z ∷ ys) zero x p h = cc (p.1, h)
  prefix_get (y ∷ xs) (z ∷ ys) (suc k) x p h = prefix_get xs ys k x (p.0, cc (p.1)) h

  pub set_at : (l : List A) (i : ℕ) (a b : A) → get_elem? l i ≡ some a → get_elem? (set l i b) i ≡ some b
  set_at [] i a b e = absurd (some-ne-none a (sym e))
  set_at (x ∷ xs) zero a b e = refl
  set_at (x ∷ xs) (suc i) a b e = set_at xs i a b e

  -- what stands in a list with one member more is old, or is that one, at the end
  pub at_end : (l : List A) (a b : A) (j : ℕ) → get_elem? (l ++ a ∷ []) j ≡ some b → (get_elem? l j ≡ some b) ⊎ ((j ≡ length l) × (a ≡ b))
  at_end [] a b zero e = inr (refl, some-injective a b e)
  at_end [] a b (suc j) e = absurd (some-ne-none b (sym e))
  at_end (x ∷ xs) a b zero e = inl e
  at_end (x ∷ xs) a b (suc j) e = ⊎_elim (λ (t : get_elem? xs j ≡ some b). inl t) (λ (t : (j ≡ length xs) × (a ≡ b)). inr (ap suc t.0, t.1)) (at_end xs a b j e)

  -- each member after one was replaced
  pub members_set : (P : ℕ → A → Type 0) (l : List A) (i : ℕ) (b : A) → P i b → ((j : ℕ) (u : A) → j ≢ i → get_elem? l j ≡ some u → P j u)
      → (j : ℕ) (u : A) → get_elem? (set l i b) j ≡ some u → P j u
  members_set P l i b mine others j u at =
      ⊎_elim (λ (t : (j ≡ i) × (b ≡ u)). subst (λ (z : ℕ × A). P z.0 z.1) (λ k. (sym t.0 k, t.1 k)) mine)
      (λ (t : (j ≢ i) × (get_elem? l j ≡ some u)). others j u t.0 t.1) (at_set l i j b u at)

  -- each member after one was added
  pub members-snoc : (P : ℕ → A → Type 0) (l : List A) (b : A) → ((j : ℕ) → P j b) → ((j : ℕ) (u : A) → get_elem? l j ≡ some u → P j u)
      → (j : ℕ) (u : A) → get_elem? (l ++ b ∷ []) j ≡ some u → P j u
  members-snoc P l b mine others j u at = ⊎_elim (λ (t : get_elem? l j ≡ some u). others j u t) (λ (t : b ≡ u). subst (P j) t (mine j)) (at_snoc l b u j at)

  -- an induction from the end
  pub by_end : (P : List A → Type 0) → P [] → ((xs : List A) (x : A) → P xs → P (xs ++ x ∷ [])) → (xs : List A) → P xs
  by_end P base step xs = by_end_from [] xs base
    where
      by_end_from : (xs ys : List A) → P xs → P (xs ++ ys)
      by_end_from xs [] p = subst P (sym (append-nil xs)) p
      by_end_from xs (y ∷ ys) p = subst P (append_assoc xs (y ∷ []) ys) (by_end_from (xs ++ y ∷ []) ys (step xs y p))

  module _ (f : A → ℕ) where
    pub weigh-append : (xs ys : List A) → weigh f (xs ++ ys) ≡ weigh f xs + weigh f ys
    weigh-append [] ys = omega arith
    weigh-append (x ∷ xs) ys = let h = weigh-append xs ys in omega arith

    pub weigh_set : (xs : List A) (i : ℕ) (a b : A) → get_elem? xs i ≡ some a → weigh f (set xs i b) + f a ≡ weigh f xs + f b
    weigh_set [] i a b e = absurd (some-ne-none a (sym e))
    weigh_set (x ∷ xs) zero a b e = let h : f x ≡ f a = ap f (some-injective x a e) in omega arith
    weigh_set (x ∷ xs) (suc i) a b e = let h = weigh_set xs i a b e in omega arith

    pub weigh_at : (xs : List A) (i : ℕ) (a : A) → get_elem? xs i ≡ some a → f a ≤ weigh f xs
    weigh_at [] i a e = absurd (some-ne-none a (sym e))
    weigh_at (x ∷ xs) zero a e = let h : f x ≡ f a = ap f (some-injective x a e) in omega arith
    weigh_at (x ∷ xs) (suc i) a e = let h = weigh_at xs i a e in omega arith

    pub weigh_two : (xs : List A) (i j : ℕ) (a b : A) → get_elem? xs i ≡ some a → get_elem? xs j ≡ some b → i ≢ j → f a + f b ≤ weigh f xs
    weigh_two [] i j a b p q n = absurd (some-ne-none a (sym p))
    weigh_two (x ∷ xs) zero zero a b p q n = absurd (n refl)
    weigh_two (x ∷ xs) zero (suc j) a b p q n = let h : f x ≡ f a = ap f (some-injective x a p) in let k = weigh_at xs j b q in omega arith
    weigh_two (x ∷ xs) (suc i) zero a b p q n = let h : f x ≡ f b = ap f (some-injective x b q) in let k = weigh_at xs i a p in omega arith
    weigh_two (x ∷ xs) (suc i) (suc j) a b p q n = let h = weigh_two xs i j a b p q (λ e. n (ap suc e)) in omega arith

    pub weigh_stands : (xs : List A) (a : A) → Stands a xs → f a ≤ weigh f xs
    weigh_stands [] a h = absurd h
    weigh_stands (x ∷ xs) a h = ⊎_elim (λ (e : a ≡ x). let k : f a ≡ f x = ap f e in omega arith) (λ (s : Stands a xs). let k = weigh_stands xs a s in omega arith) h

    pub weigh_some : (xs : List A) → 1 ≤ weigh f xs → (a : A) × Stands a xs × (1 ≤ f a)
    weigh_some [] h = absurd (omega arith)
    weigh_some (x ∷ xs) h = weigh_some_by x xs h (f x) refl (λ k. weigh_some xs k)
      where
        weigh_some_by : (x : A) (xs : List A) → 1 ≤ f x + weigh f xs → (n : ℕ) → f x ≡ n → (1 ≤ weigh f xs → (a : A) × Stands a xs × (1 ≤ f a)) → (a : A) × Stands a (x ∷ xs) × (1 ≤ f a)
        weigh_some_by x xs h zero e more = let r = more (omega arith) in (r.0, inr r.1, r.2)
        weigh_some_by x xs h (suc n) e more = (x, inl refl, omega arith)

  pub weigh_le : (f g : A → ℕ) → ((x : A) → f x ≤ g x) → (xs : List A) → weigh f xs ≤ weigh g xs
  weigh_le f g le [] = omega arith
  weigh_le f g le (x ∷ xs) = let h = weigh_le f g le xs in let k = le x in omega arith

  pub weigh_sum : (f g h : A → ℕ) → ((x : A) → f x + g x ≡ h x) → (xs : List A) → weigh f xs + weigh g xs ≡ weigh h xs
  weigh_sum f g h e [] = refl
  weigh_sum f g h e (x ∷ xs) = let k = weigh_sum f g h e xs in let l = e x in omega arith

  pub each_stands : (P : A → Type 0) (xs : List A) (a : A) → Each P xs → Stands a xs → P a
  each_stands P [] a h s = absurd s
  each_stands P (x ∷ xs) a h s = ⊎_elim (λ (e : a ≡ x). subst P (sym e) h.0) (λ (t : Stands a xs). each_stands P xs a h.1 t) s

  pub each_map : (P Q : A → Type 0) (xs : List A) → ((a : A) → Stands a xs → P a → Q a) → Each P xs → Each Q xs
  each_map P Q [] f h = tt
  each_map P Q (x ∷ xs) f h = (f x (inl refl) h.0, each_map P Q xs (λ a s p. f a (inr s) p) h.1)

  pub each-append : (P : A → Type 0) (xs ys : List A) → Each P xs → Each P ys → Each P (xs ++ ys)
  each-append P [] ys h k = k
  each-append P (x ∷ xs) ys h k = (h.0, each-append P xs ys h.1 k)

  pub each_front : (P : A → Type 0) (xs zs : List A) (a : A) → zs ≡ xs ++ a ∷ [] → Each P zs → Each P xs
  each_front P xs zs a e h = front xs (subst (λ l. Each P l) e h)
    where
      front : (xs : List A) → Each P (xs ++ a ∷ []) → Each P xs
      front [] h = tt
      front (x ∷ xs) h = (h.0, front xs h.1)

  pub each_last : (P : A → Type 0) (xs zs : List A) (a : A) → zs ≡ xs ++ a ∷ [] → Each P zs → P a
  each_last P xs zs a e h = last xs (subst (λ l. Each P l) e h)
    where
      last : (xs : List A) → Each P (xs ++ a ∷ []) → P a
      last [] h = h.0
      last (x ∷ xs) h = last xs h.1

  pub each_of_all : (P : A → Type 0) (xs : List A) → ((k : ℕ) (d : A) → k < length xs → P (get_or xs k d)) → Each P xs
  each_of_all P [] h = tt
  each_of_all P (x ∷ xs) h = (h 0 x (omega arith), each_of_all P xs (λ k d lt. h (suc k) d (omega arith)))

  pub stands_get : (xs : List A) (i : ℕ) (a : A) → slice_get xs i ≡ Some a → Stands a xs
  stands_get [] i a h = absurd cc
  stands_get (x ∷ xs) zero a h = inl cc
  stands_get (x ∷ xs) (suc i) a h = inr (stands_get xs i a h)

  pub get_stands : (xs : List A) (a : A) → Stands a xs → (i : ℕ) × (slice_get xs i ≡ Some a)
  get_stands [] a h = absurd h
  get_stands (x ∷ xs) a h = ⊎_elim (λ (e : a ≡ x). (0, ap (λ (y : A). Some y) (sym e))) (λ (s : Stands a xs). let r = get_stands xs a s in (suc r.0, r.1)) h

  pub get_of : (xs : List A) (i : ℕ) (a : A) → slice_get xs i ≡ Some a → get_elem? xs i ≡ some a
  get_of [] i a h = absurd cc
  get_of (x ∷ xs) zero a h = ap (λ (y : A). some y) cc
  get_of (x ∷ xs) (suc i) a h = get_of xs i a h

module _ {A B : Type 0} (f : A → B) where
  pub get_map : (xs : List A) (i : ℕ) (a : A) → slice_get xs i ≡ Some a → slice_get (map f xs) i ≡ Some (f a)
  get_map [] i a h = absurd cc
  get_map (x ∷ xs) zero a h = ap (λ (y : B). Some y) (ap f cc)
  get_map (x ∷ xs) (suc i) a h = get_map xs i a h

  pub each_unmap : (P : B → Type 0) (xs : List A) → Each P (map f xs) → Each (λ x. P (f x)) xs
  each_unmap P [] h = tt
  each_unmap P (x ∷ xs) h = (h.0, each_unmap P xs h.1)
