-- Lists of which some elements are left out.
use Rattle.std.proofs.Common.{◌≡◌, ◌∙◌, ◌≤◌, ◌==◌, ℕ, Bool, true, false, not, List, [], ◌∷◌, ◌++◌, map, length, refl, sym, arith, true≢false, if◌then◌else◌}
use Rattle.std.specs.List.{AllByRecursion, list_any, filter}
use Rattle.std.proofs.lemmas.Bool.{and_from, and_parts, or_from, or_parts, not_from_false, not-true, cond_both}
use Rattle.std.proofs.lemmas.List.Folds.{list_any-append}
use Rattle.ledger_model.specs.Follows.{all_differ}

-- ---- what holds of each element holds of each that is left, and so does the test

pub all_thinned : {X : Type 0} (P : X → Type 0) (p : X → Bool) (xs : List X) → AllByRecursion P xs
    → AllByRecursion P (filter p xs)
all_thinned P p [] h = tt
all_thinned P p (x ∷ xs) h =
    cond_both (p x) (x ∷ filter p xs) (filter p xs) (AllByRecursion P) (λ _. (h.0, all_thinned P p xs h.1))
    (λ _. all_thinned P p xs h.1)

pub all_left : {X : Type 0} (p : X → Bool) (xs : List X) → AllByRecursion (λ x. p x ≡ true) (filter p xs)
all_left p [] = tt
all_left p (x ∷ xs) =
    cond_both (p x) (x ∷ filter p xs) (filter p xs) (AllByRecursion (λ y. p y ≡ true)) (λ t. (t, all_left p xs))
    (λ _. all_left p xs)

pub fewer : {X : Type 0} (p : X → Bool) (xs : List X) → length (filter p xs) ≤ length xs
fewer p [] = omega arith
fewer p (x ∷ xs) =
    cond_both (p x) (x ∷ filter p xs) (filter p xs) (λ ys. length ys ≤ length (x ∷ xs))
    (λ _. let rest = fewer p xs in omega (arith, rest)) (λ _. let rest = fewer p xs in omega (arith, rest))

-- a filter that each element passes keeps all of them
pub all_kept : {X : Type 0} (p : X → Bool) (xs : List X) → AllByRecursion (λ x. p x ≡ true) xs → filter p xs ≡ xs
all_kept p [] h = refl
all_kept p (x ∷ xs) h = rw (h.0, all_kept p xs h.1) refl

-- what holds of each that is left holds of each that passes
pub unthinned : {X : Type 0} (P : X → Type 0) (p : X → Bool) (xs : List X) → AllByRecursion P (filter p xs)
    → AllByRecursion (λ x. p x ≡ true → P x) xs
unthinned P p [] h = tt
unthinned P p (x ∷ xs) h = by_test (λ k. unthinned P p xs k) (p x) refl h where
  by_test : (AllByRecursion P (filter p xs) → AllByRecursion (λ y. p y ≡ true → P y) xs) → (b : Bool) → p x ≡ b
      → AllByRecursion P (if b then x ∷ filter p xs else filter p xs)
      → AllByRecursion (λ y. p y ≡ true → P y) (x ∷ xs)
  by_test rest true e k = (λ _. k.0, rest k.1)
  by_test rest false e k = (λ t. absurd (true≢false (sym t ∙ e)), rest k)

-- ---- two tests in either order, and a test behind a map

pub swapped : {X : Type 0} (p q : X → Bool) (xs : List X) → filter p (filter q xs) ≡ filter q (filter p xs)
swapped p q [] = refl
swapped p q (x ∷ xs) = by_tests (swapped p q xs) (p x) refl (q x) refl where
  by_tests : filter p (filter q xs) ≡ filter q (filter p xs) → (a : Bool) → p x ≡ a → (b : Bool) → q x ≡ b
      → filter p (filter q (x ∷ xs)) ≡ filter q (filter p (x ∷ xs))
  by_tests rest true e true k = rw (k, e, k, rest) refl
  by_tests rest true e false k = rw (k, e, k, rest) refl
  by_tests rest false e true k = rw (k, e, rest) refl
  by_tests rest false e false k = rw (k, e, rest) refl

pub of_mapped : {X Y : Type 0} (p : Y → Bool) (f : X → Y) (xs : List X)
    → filter p (map f xs) ≡ map f (filter (λ x. p (f x)) xs)
of_mapped p f [] = refl
of_mapped p f (x ∷ xs) = by_test (of_mapped p f xs) (p (f x)) refl where
  by_test : filter p (map f xs) ≡ map f (filter (λ y. p (f y)) xs) → (b : Bool) → p (f x) ≡ b
      → filter p (map f (x ∷ xs)) ≡ map f (filter (λ y. p (f y)) (x ∷ xs))
  by_test rest true e = rw (e, rest) refl
  by_test rest false e = rw (e, rest) refl

-- ---- numbers that differ

none_left : {X : Type 0} (p : X → Bool) (f : X → ℕ) (z : ℕ) (xs : List X) → list_any (λ y. z == y) (map f xs) ≡ false
    → list_any (λ y. z == y) (map f (filter p xs)) ≡ false
none_left p f z [] h = refl
none_left p f z (x ∷ xs) h =
    let both = or_parts (z == f x) (list_any (λ y. z == y) (map f xs)) h in
    let rest = none_left p f z xs both.1 in
    cond_both (p x) (x ∷ filter p xs) (filter p xs) (λ ys. list_any (λ y. z == y) (map f ys) ≡ false)
    (λ _. or_from (z == f x) (list_any (λ y. z == y) (map f (filter p xs))) both.0 rest) (λ _. rest)

rest_differ : {X : Type 0} (p : X → Bool) (f : X → ℕ) (xs : List X) → all_differ (map f xs) ≡ true
    → all_differ (map f (filter p xs)) ≡ true
rest_differ p f [] h = refl
rest_differ p f (x ∷ xs) h =
    let both = and_parts (not (list_any (λ y. f x == y) (map f xs))) (all_differ (map f xs)) h in
    let rest = rest_differ p f xs both.1 in
    let none = none_left p f (f x) xs (not-true _ both.0) in
    cond_both (p x) (x ∷ filter p xs) (filter p xs) (λ ys. all_differ (map f ys) ≡ true)
    (λ _. and_from (not (list_any (λ y. f x == y) (map f (filter p xs)))) _ (not_from_false _ none) rest) (λ _. rest)

-- behind others
pub still_differ : {X : Type 0} (p : X → Bool) (f : X → ℕ) (ns : List ℕ) (xs : List X)
    → all_differ (ns ++ map f xs) ≡ true
    → all_differ (ns ++ map f (filter p xs)) ≡ true
still_differ p f [] xs h = rest_differ p f xs h
still_differ p f (n ∷ ns) xs h =
    let is : ℕ → Bool = λ y. n == y in
    let both = and_parts (not (list_any is (ns ++ map f xs))) (all_differ (ns ++ map f xs)) h in
    let none = or_parts (list_any is ns) (list_any is (map f xs))
    (sym (list_any-append is ns (map f xs)) ∙ not-true _ both.0) in
    let now = list_any-append is ns (map f (filter p xs))
    ∙ or_from (list_any is ns) _ none.0 (none_left p f n xs none.1) in
    and_from (not (list_any is (ns ++ map f (filter p xs)))) _ (not_from_false _ now) (still_differ p f ns xs both.1)
