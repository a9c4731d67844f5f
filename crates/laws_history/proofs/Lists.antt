-- Beginnings of one list, what stands in a list, and how many numbers a list of them can hold.
use Rattle.std.proofs.Common.{◌≡◌, ◌⊎◌, ℕ, zero, suc, ◌+◌, ◌<◌, ◌≤◌, ◌==◌, Bool, true, false, not, cond, List, [], ◌∷◌, ◌++◌, map, length, take, drop, slice_get, Some, Contains, sym, refl, ap, ◌∙◌, subst, inl, inr, arith, append_assoc, eqb-true, length-take}
use Rattle.std.specs.List.{AllByRecursion, filter}
use Rattle.std.proofs.lemmas.Bool.{eqb-false}
use Rattle.std.proofs.lemmas.List.{take-append-drop, take-append-le, drop-append-le}
use mathlib.Core.List.{IsPrefix}
use Rattle.turn_lock.specs.History.{Stands}

pub slice_get_seam : {A : Type 0} (xs : List A) (x : A) (ys : List A) → slice_get (xs ++ x ∷ ys) (length xs) ≡ Some x
slice_get_seam [] x ys = refl
slice_get_seam (y ∷ xs) x ys = slice_get_seam xs x ys

-- ---- a list that begins with another one

module _ {A : Type 0} (before after more : List A) (begins : take (length before) after ≡ before) where
  pub reaches : length before ≤ length after
  reaches = omega (arith, length-take (length before) after, ap length begins)

  pub whole : before ++ drop (length before) after ≡ after
  whole = ap (λ xs. xs ++ drop (length before) after) (sym begins) ∙ take-append-drop (length before) after

  pub begins_on : take (length before) (after ++ more) ≡ before
  begins_on = take-append-le (length before) after more reaches ∙ begins

  pub drop_on : drop (length before) (after ++ more) ≡ drop (length before) after ++ more
  drop_on = drop-append-le (length before) after more reaches

-- ---- beginnings

module _ {A : Type 0} where
  pub prefix_take : (xs ys : List A) → IsPrefix xs ys → take (length xs) ys ≡ xs
  prefix_take [] ys p = refl
  prefix_take (x ∷ xs) [] p = absurd (cc (p.1))
  prefix_take (x ∷ xs) (y ∷ ys) p =
      let rest : xs ++ p.0 ≡ ys = cc (p.1) in
      let head : x ≡ y = cc (p.1) in
      let tail : take (length xs) ys ≡ xs = prefix_take xs ys (p.0, rest) in
      λ i. sym head i ∷ tail i

  pub prefix_front : (xs : List A) (x : A) (ys : List A) → IsPrefix (xs ++ x ∷ []) ys → IsPrefix xs ys
  prefix_front xs x ys p = (x ∷ p.0, sym (append_assoc xs (x ∷ []) p.0) ∙ p.1)

  pub seen_in : (xs : List A) (x : A) (ys : List A) → IsPrefix (xs ++ x ∷ []) ys → slice_get ys (length xs) ≡ Some x
  seen_in xs x ys p =
      subst (λ (zs : List A). slice_get zs (length xs) ≡ Some x) (sym (append_assoc xs (x ∷ []) p.0) ∙ p.1)
      (slice_get_seam xs x p.0)

  -- of two items of one list they are one, or the one stands before the other
  pub one_before : (xs : List A) (x : A) (ys : List A) (y : A) (zs : List A) → IsPrefix (xs ++ x ∷ []) zs
      → IsPrefix (ys ++ y ∷ []) zs
      → ((xs ≡ ys) × (x ≡ y)) ⊎ (IsPrefix (xs ++ x ∷ []) ys ⊎ IsPrefix (ys ++ y ∷ []) xs)
  one_before [] x [] y zs p q = let same : x ≡ y = cc (p.1, q.1) in inl (refl, same)
  one_before [] x (b ∷ ys) y zs p q = inr (inl (ys, cc (p.1, q.1)))
  one_before (a ∷ xs) x [] y zs p q = inr (inr (xs, cc (p.1, q.1)))
  one_before (a ∷ xs) x (b ∷ ys) y [] p q = absurd (cc (p.1))
  one_before (a ∷ xs) x (b ∷ ys) y (z ∷ zs) p q =
      let heads : a ≡ b = cc (p.1, q.1) in
      deeper a b heads xs x ys y (one_before xs x ys y zs (p.0, cc (p.1)) (q.0, cc (q.1)))
    where
      deeper : (a b : A) → a ≡ b → (xs : List A) (x : A) (ys : List A) (y : A)
          → ((xs ≡ ys) × (x ≡ y)) ⊎ (IsPrefix (xs ++ x ∷ []) ys ⊎ IsPrefix (ys ++ y ∷ []) xs)
          → ((a ∷ xs ≡ b ∷ ys) × (x ≡ y))
          ⊎ (IsPrefix (a ∷ xs ++ x ∷ []) (b ∷ ys) ⊎ IsPrefix (b ∷ ys ++ y ∷ []) (a ∷ xs))
      deeper a b e xs x ys y (inl same) = inl ((λ i. e i ∷ same.0 i), same.1)
      deeper a b e xs x ys y (inr (inl p)) = inr (inl (p.0, λ i. e i ∷ p.1 i))
      deeper a b e xs x ys y (inr (inr q)) = inr (inr (q.0, λ i. sym e i ∷ q.1 i))

  -- two beginnings of one list that are of one length are one
  pub one_length : (xs ys zs : List A) → IsPrefix xs zs → IsPrefix ys zs → length xs ≡ length ys → xs ≡ ys
  one_length xs ys zs p q e =
      sym (prefix_take xs zs p) ∙ ap (λ (n : ℕ). take n zs) e ∙ prefix_take ys zs q

-- ---- what stands in a list

module _ {A : Type 0} where
  pub stands_front : (x : A) (xs ys : List A) → Stands x xs → Stands x (xs ++ ys)
  stands_front x [] ys h = absurd h
  stands_front x (z ∷ xs) ys (inl e) = inl e
  stands_front x (z ∷ xs) ys (inr h) = inr (stands_front x xs ys h)

  pub stands_rest : (x : A) (xs ys : List A) → Stands x ys → Stands x (xs ++ ys)
  stands_rest x [] ys h = h
  stands_rest x (z ∷ xs) ys h = inr (stands_rest x xs ys h)

  pub stands_parts : (x : A) (xs ys : List A) → Stands x (xs ++ ys) → Stands x xs ⊎ Stands x ys
  stands_parts x [] ys h = inr h
  stands_parts x (z ∷ xs) ys (inl e) = inl (inl e)
  stands_parts x (z ∷ xs) ys (inr h) = deeper x z xs ys (stands_parts x xs ys h)
    where
      deeper : (x z : A) (xs ys : List A) → Stands x xs ⊎ Stands x ys → Stands x (z ∷ xs) ⊎ Stands x ys
      deeper x z xs ys (inl a) = inl (inr a)
      deeper x z xs ys (inr b) = inr b

  pub stands_contains : (x : A) (xs : List A) → Stands x xs → Contains xs x
  stands_contains x [] h = absurd h
  stands_contains x (y ∷ xs) (inl e) = (0, omega arith, sym e)
  stands_contains x (y ∷ xs) (inr h) =
      let r = stands_contains x xs h in (suc r.0, omega (arith, r.1), r.2)

  pub stands_all : (P : A → Type 0) (x : A) (xs : List A) → AllByRecursion P xs → Stands x xs → P x
  stands_all P x [] h k = absurd k
  stands_all P x (y ∷ xs) h (inl e) = subst P (sym e) h.0
  stands_all P x (y ∷ xs) h (inr k) = stands_all P x xs h.1 k

  -- what is true of whatever stands in a list is true of all of it
  pub all_stand : (P : A → Type 0) (xs : List A) → ((x : A) → Stands x xs → P x) → AllByRecursion P xs
  all_stand P [] f = tt
  all_stand P (x ∷ xs) f = (f x (inl refl), all_stand P xs (λ y h. f y (inr h)))

  kept_by : (test : A → Bool) (x y : A) (xs : List A) (b : Bool)
      → Stands x (cond b (y ∷ filter test xs) (filter test xs))
      → (Stands x (filter test xs) → Stands x xs) → Stands x (y ∷ xs)
  kept_by test x y xs true (inl e) f = inl e
  kept_by test x y xs true (inr h) f = inr (f h)
  kept_by test x y xs false h f = inr (f h)

  pub stands_filter : (test : A → Bool) (x : A) (xs : List A) → Stands x (filter test xs) → Stands x xs
  stands_filter test x [] h = absurd h
  stands_filter test x (y ∷ xs) h = kept_by test x y xs (test y) h (stands_filter test x xs)

-- a test that all pass leaves all
pub all_kept : {A : Type 0} (test : A → Bool) (xs : List A) → ((x : A) → test x ≡ true) → filter test xs ≡ xs
all_kept test [] f = refl
all_kept test (x ∷ xs) f =
    ap (λ (b : Bool). cond b (x ∷ filter test xs) (filter test xs)) (f x) ∙ ap (λ ys. x ∷ ys) (all_kept test xs f)

pub stands_map : {A B : Type 0} (f : A → B) (x : A) (xs : List A) → Stands x xs → Stands (f x) (map f xs)
stands_map f x [] h = absurd h
stands_map f x (y ∷ xs) (inl e) = inl (ap f e)
stands_map f x (y ∷ xs) (inr h) = inr (stands_map f x xs h)

-- ---- as many numbers as a list holds

abbrev without : ℕ → List ℕ → List ℕ
without n xs = filter (λ x. not (x == n)) xs

shorter_by : (n x : ℕ) (xs : List ℕ) (b : Bool) → length (without n xs) ≤ length xs
    → length (cond (not b) (x ∷ without n xs) (without n xs)) ≤ suc (length xs)
shorter_by n x xs true h = omega (arith, h)
shorter_by n x xs false h = omega (arith, h)

no_longer : (n : ℕ) (xs : List ℕ) → length (without n xs) ≤ length xs
no_longer n [] = omega arith
no_longer n (x ∷ xs) = shorter_by n x xs (x == n) (no_longer n xs)

taken_by : (n x : ℕ) (xs : List ℕ) (b : Bool) → (x == n) ≡ b → (n ≡ x) ⊎ Stands n xs
    → (Stands n xs → length (without n xs) < length xs)
    → length (cond (not b) (x ∷ without n xs) (without n xs)) < suc (length xs)
taken_by n x xs true e h f = let low = no_longer n xs in omega (arith, low)
taken_by n x xs false e (inl same) f = absurd (eqb-false x n e (sym same))
taken_by n x xs false e (inr h) f = let less = f h in omega (arith, less)

shorter : (n : ℕ) (xs : List ℕ) → Stands n xs → length (without n xs) < length xs
shorter n [] h = absurd h
shorter n (x ∷ xs) h = taken_by n x xs (x == n) refl h (shorter n xs)

left_by : (n m x : ℕ) (xs : List ℕ) (b : Bool) → (x == n) ≡ b → (m ≡ n → ⊥) → (m ≡ x) ⊎ Stands m xs
    → (Stands m xs → Stands m (without n xs)) → Stands m (cond (not b) (x ∷ without n xs) (without n xs))
left_by n m x xs true e other (inl same) f = absurd (other (same ∙ eqb-true x n e))
left_by n m x xs true e other (inr h) f = f h
left_by n m x xs false e other (inl same) f = inl same
left_by n m x xs false e other (inr h) f = inr (f h)

still_stands : (n m : ℕ) (xs : List ℕ) → (m ≡ n → ⊥) → Stands m xs → Stands m (without n xs)
still_stands n m [] other h = absurd h
still_stands n m (x ∷ xs) other h = left_by n m x xs (x == n) refl other h (still_stands n m xs other)

-- where the n numbers from a on stand in a list, it has n members at least
pub many_stand : (n a : ℕ) (xs : List ℕ) → ((m : ℕ) → a ≤ m → m < a + n → Stands m xs) → n ≤ length xs
many_stand zero a xs f = omega arith
many_stand (suc n) a xs f =
    let less : length (without (a + n) xs) < length xs = shorter (a + n) xs (f (a + n) (omega arith) (omega arith)) in
    let rest : n ≤ length (without (a + n) xs) =
    many_stand n a (without (a + n) xs)
    (λ m low high. still_stands (a + n) m xs (λ e. let same : m ≡ a + n = e in omega (arith, high, same))
    (f m low (omega (arith, high)))) in
    omega (arith, less, rest)
