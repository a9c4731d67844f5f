-- What stands in a list, and lists in which each stands once.
use Rattle.std.proofs.Common.{◌≡◌, ◌∙◌, ◌⊎◌, inl, inr, ℕ, zero, suc, Bool, true, false, cond, ◌||◌, List, [], ◌∷◌, ◌++◌, length, map, refl, sym, ap, subst, arith, slice_get, ◌+◌, Option, Some, None}
use Rattle.std.specs.List.{AllByRecursion, cons_option, filter, filter_map, list_any}
use Rattle.std.proofs.lemmas.Bool.{false_from_ne_true, false≢true, or_cases, or_left, or_right}
use Rattle.std.proofs.lemmas.List.{append_assoc}
use Rattle.std.proofs.lemmas.List.Folds.{list_any-append}
use Rattle.ledger_model.specs.Footprints.{each_once, each_once_behind, first_of, with_one}
use Rattle.laws_footprint.specs.Restriction.{Among}

-- ---- what stands in a list

pub among_more : {A : Type 0} (y : A) (xs : List A) (x : A) → Among xs x → Among (y ∷ xs) x
among_more y xs x h = (suc h.0, h.1)

pub none_among : {A : Type 0} (x : A) → Among [] x → ⊥
none_among x h = cc h.1

-- what is found first of each stands among what is found
keep_found : {B : Type 0} (o : Option B) (ys : List B) (y : B) → Among ys y → Among (cons_option o ys) y
keep_found None ys y h = h
keep_found (Some z) ys y h = among_more z ys y h

found_first : {B : Type 0} (o : Option B) (ys : List B) (y : B) → o ≡ Some y → Among (cons_option o ys) y
found_first None ys y h = cc
found_first (Some z) ys y h = (zero, h)

found_at : {A B : Type 0} (g : A → Option B) (xs : List A) (k : ℕ) (x : A) (y : B) → slice_get xs k ≡ Some x
    → g x ≡ Some y → Among (filter_map g xs) y
found_at g [] k x y at is = cc
found_at g (z ∷ xs) zero x y at is =
    let same : z ≡ x = cc at in found_first (g z) (filter_map g xs) y (ap g same ∙ is)
found_at g (z ∷ xs) (suc k) x y at is = keep_found (g z) (filter_map g xs) y (found_at g xs k x y at is)

pub among_found : {A B : Type 0} (g : A → Option B) (xs : List A) (x : A) (y : B) → Among xs x → g x ≡ Some y
    → Among (filter_map g xs) y
among_found g xs x y h is = found_at g xs h.0 x y h.1 is

keep_kept : {A : Type 0} (b : Bool) (z : A) (ys : List A) (x : A) → Among ys x → Among (cond b (z ∷ ys) ys) x
keep_kept true z ys x h = among_more z ys x h
keep_kept false z ys x h = h

kept_first : {A : Type 0} (b : Bool) (z : A) (ys : List A) → b ≡ true → Among (cond b (z ∷ ys) ys) z
kept_first true z ys h = (zero, refl)
kept_first false z ys h = absurd (false≢true h)

kept_at : {A : Type 0} (p : A → Bool) (xs : List A) (k : ℕ) (x : A) → slice_get xs k ≡ Some x → p x ≡ true
    → Among (filter p xs) x
kept_at p [] k x at is = cc
kept_at p (z ∷ xs) zero x at is =
    let same : z ≡ x = cc at in
    subst (λ y. Among (filter p (z ∷ xs)) y) same (kept_first (p z) z (filter p xs) (ap p same ∙ is))
kept_at p (z ∷ xs) (suc k) x at is = keep_kept (p z) z (filter p xs) x (kept_at p xs k x at is)

pub among_kept : {A : Type 0} (p : A → Bool) (xs : List A) (x : A) → Among xs x → p x ≡ true → Among (filter p xs) x
among_kept p xs x h is = kept_at p xs h.0 x h.1 is

any_at : {A : Type 0} (p : A → Bool) (xs : List A) (k : ℕ) (x : A) → slice_get xs k ≡ Some x → p x ≡ true
    → list_any p xs ≡ true
any_at p [] k x at is = cc
any_at p (z ∷ xs) zero x at is = let same : z ≡ x = cc at in or_left (p z) (list_any p xs) (ap p same ∙ is)
any_at p (z ∷ xs) (suc k) x at is = or_right (p z) (list_any p xs) (any_at p xs k x at is)

pub any_among : {A : Type 0} (p : A → Bool) (xs : List A) (x : A) → Among xs x → p x ≡ true → list_any p xs ≡ true
any_among p xs x h is = any_at p xs h.0 x h.1 is

pub none_of : {A : Type 0} (p : A → Bool) (xs : List A) (x : A) → Among xs x → list_any p xs ≡ false → p x ≡ false
none_of p xs x h none = false_from_ne_true (p x) (λ is. false≢true (sym none ∙ any_among p xs x h is))

pub any_map : {A B : Type 0} (p : B → Bool) (f : A → B) (xs : List A)
    → list_any p (map f xs) ≡ list_any (λ x. p (f x)) xs
any_map p f [] = refl
any_map p f (x ∷ xs) = ap (λ b. p (f x) || b) (any_map p f xs)

-- ---- each once

module _ {A : Type 0} (same : A → A → Bool) (p : A → Bool)
    (alike : (x y : A) → same x y ≡ true → p x ≡ true → p y ≡ true) where
  any_same : (x : A) (all : List A) → p x ≡ true → list_any (same x) all ≡ true → list_any p all ≡ true
  any_same x [] is h = absurd (false≢true h)
  any_same x (y ∷ all) is h =
      elim (or_cases (same x y) (list_any (same x) all) h) as (λ _. list_any p (y ∷ all) ≡ true) [
        | inl here ↦ or_left (p y) (list_any p all) (alike x y here is)
        | inr there ↦ or_right (p y) (list_any p all) (any_same x all is there)
      ]

  put_old : (b : Bool) (x : A) (all : List A) → list_any p all ≡ true
      → list_any p (cond b all (all ++ x ∷ [])) ≡ true
  put_old true x all h = h
  put_old false x all h = list_any-append p all (x ∷ []) ∙ or_left (list_any p all) (list_any p (x ∷ [])) h

  put_new : (b : Bool) (x : A) (all : List A) → list_any (same x) all ≡ b → p x ≡ true
      → list_any p (cond b all (all ++ x ∷ [])) ≡ true
  put_new true x all e is = any_same x all is e
  put_new false x all e is =
      list_any-append p all (x ∷ [])
      ∙ or_right (list_any p all) (list_any p (x ∷ [])) (or_left (p x) false is)

  any_behind : (all xs : List A) → (list_any p all ≡ true) ⊎ (list_any p xs ≡ true)
      → list_any p (each_once_behind same all xs) ≡ true
  any_behind all [] (inl h) = h
  any_behind all [] (inr h) = absurd (false≢true h)
  any_behind all (x ∷ xs) (inl h) =
      any_behind (with_one same all x) xs (inl (put_old (list_any (same x) all) x all h))
  any_behind all (x ∷ xs) (inr h) =
      any_behind (with_one same all x) xs
      (elim (or_cases (p x) (list_any p xs) h) as
      (λ _. (list_any p (with_one same all x) ≡ true) ⊎ (list_any p xs ≡ true)) [
        | inl here ↦ inl (put_new (list_any (same x) all) x all refl here)
        | inr there ↦ inr there
      ])

  pub any_once : (xs : List A) → list_any p xs ≡ true → list_any p (each_once same xs) ≡ true
  any_once xs h = any_behind [] xs (inr h)

-- ---- what holds of all

one_found : {B : Type 0} (P : B → Type 0) (o : Option B) (ys : List B) → ((y : B) → o ≡ Some y → P y)
    → AllByRecursion P ys → AllByRecursion P (cons_option o ys)
one_found P None ys h all = all
one_found P (Some y) ys h all = (h y refl, all)

pub all_found : {A B : Type 0} (Q : A → Type 0) (P : B → Type 0) (g : A → Option B) (xs : List A)
    → AllByRecursion Q xs → ((x : A) → Q x → (y : B) → g x ≡ Some y → P y) → AllByRecursion P (filter_map g xs)
all_found Q P g [] all each = tt
all_found Q P g (x ∷ xs) all each =
    one_found P (g x) (filter_map g xs) (each x all.0) (all_found Q P g xs all.1 each)

pub first_holds : {A : Type 0} (P : A → Type 0) (xs : List A) (x : A) → AllByRecursion P xs → first_of xs ≡ Some x → P x
first_holds P [] x all h = cc
first_holds P (y ∷ xs) x all h = let same : y ≡ x = cc h in subst P same all.0

-- ---- places in a list

pub at_length : {A : Type 0} (xs : List A) (y : A) (ys : List A) → slice_get (xs ++ y ∷ ys) (length xs) ≡ Some y
at_length [] y ys = refl
at_length (x ∷ xs) y ys = at_length xs y ys

pub at_left : {A : Type 0} (xs ys : List A) (k : ℕ) (x : A) → slice_get xs k ≡ Some x
    → slice_get (xs ++ ys) k ≡ Some x
at_left [] ys k x h = cc
at_left (y ∷ xs) ys zero x h = h
at_left (y ∷ xs) ys (suc k) x h = at_left xs ys k x h

among_behind : {A : Type 0} (P : A → Type 0) (before xs : List A) → AllByRecursion P xs
    → AllByRecursion (λ x. P x × Among (before ++ xs) x) xs
among_behind P before [] h = tt
among_behind P before (x ∷ xs) h = (
  (h.0, (length before, at_length before x xs)),
  subst (λ ys. AllByRecursion (λ y. P y × Among ys y) xs) (append_assoc before (x ∷ []) xs)
      (among_behind P (before ++ x ∷ []) xs h.1),
)

pub all_among : {A : Type 0} (P : A → Type 0) (xs : List A) → AllByRecursion P xs
    → AllByRecursion (λ x. P x × Among xs x) xs
all_among P xs h = among_behind P [] xs h

-- ---- a list from a place on

abbrev pub From : {A : Type 0} → List A → ℕ → List A → Type 0
From all n xs = (k : ℕ) → slice_get all (n + k) ≡ slice_get xs k

pub from_start : {A : Type 0} (xs : List A) → From xs 0 xs
from_start xs k = let same : 0 + k ≡ k = omega arith in ap (slice_get xs) same

pub here_of : {A : Type 0} (all : List A) (n : ℕ) (x : A) (xs : List A) → From all n (x ∷ xs)
    → slice_get all n ≡ Some x
here_of all n x xs at = let here : n ≡ n + 0 = omega arith in ap (slice_get all) here ∙ at 0

pub next_of : {A : Type 0} (all : List A) (n : ℕ) (x : A) (xs : List A) → From all n (x ∷ xs) → From all (n + 1) xs
next_of all n x xs at k = let there : n + 1 + k ≡ n + suc k = omega arith in ap (slice_get all) there ∙ at (suc k)
