-- The places of members in a list.
use Rattle.std.proofs.Common.{◌≡◌, ℕ, zero, suc, ◌+◌, ◌||◌, Bool, true, false, List, [], ◌∷◌, ◌++◌, length, map, take, drop, Option, Some, refl, sym, ◌∙◌, ap, arith}
use Rattle.std.specs.Prelude.{slice_get, option_and_then, option_map, if◌then◌else◌}
use Rattle.std.specs.List.{filter, list_any}
use Rattle.std.proofs.lemmas.Option.{slice_get-map}
use Rattle.versions.specs.Filing.{places_from}

-- whether there is a place
abbrev pub is_place : List ℕ → Bool
is_place [] = false
is_place (at ∷ places) = true

module _ {X : Type 0} (test : X → Bool) where
  later_by : (b : Bool) (n : ℕ) (ps qs : List ℕ) → ps ≡ map suc qs
      → (if b then suc n ∷ ps else ps) ≡ map suc (if b then n ∷ qs else qs)
  later_by true n ps qs ih = ap (λ (places : List ℕ). suc n ∷ places) ih
  later_by false n ps qs ih = ih

  pub later : (xs : List X) (n : ℕ) → places_from test (suc n) xs ≡ map suc (places_from test n xs)
  later [] n = refl
  later (x ∷ xs) n =
      later_by (test x) n (places_from test (suc (suc n)) xs) (places_from test (suc n) xs) (later xs (suc n))

  ends_by : (b c : Bool) (n m k : ℕ) (ps qs : List ℕ) → m ≡ k → ps ≡ qs ++ (if c then m ∷ [] else [])
      → (if b then n ∷ ps else ps) ≡ (if b then n ∷ qs else qs) ++ (if c then k ∷ [] else [])
  ends_by true c n m k ps qs at ih =
      ap (λ (places : List ℕ). n ∷ places) ih ∙ ap (λ (last : ℕ). n ∷ (qs ++ (if c then last ∷ [] else []))) at
  ends_by false c n m k ps qs at ih = ih ∙ ap (λ (last : ℕ). qs ++ (if c then last ∷ [] else [])) at

  -- with a member more at the end
  pub places_end : (xs : List X) (n : ℕ) (x : X)
      → places_from test n (xs ++ x ∷ []) ≡ places_from test n xs ++ (if test x then (n + length xs) ∷ [] else [])
  places_end [] n x =
      let at : n ≡ n + 0 = omega arith in
      ap (λ (last : ℕ). if test x then last ∷ [] else []) at
  places_end (y ∷ xs) n x =
      let at : suc n + length xs ≡ n + suc (length xs) = omega arith in
      ends_by (test y) (test x) n (suc n + length xs) (n + suc (length xs)) (places_from test (suc n) (xs ++ x ∷ []))
      (places_from test (suc n) xs) at (places_end xs (suc n) x)

  any_by : (b rest : Bool) (n : ℕ) (ps : List ℕ) → rest ≡ is_place ps → (b || rest) ≡ is_place (if b then n ∷ ps else ps)
  any_by true rest n ps ih = refl
  any_by false rest n ps ih = ih

  pub any_place : (xs : List X) (n : ℕ) → list_any test xs ≡ is_place (places_from test n xs)
  any_place [] n = refl
  any_place (x ∷ xs) n = any_by (test x) (list_any test xs) n (places_from test (suc n) xs) (any_place xs (suc n))

  -- ---- the members there

  behind : (x : X) (xs : List X) (places : List ℕ) (k : ℕ)
      → option_and_then (slice_get (x ∷ xs)) (slice_get (map suc places) k) ≡ option_and_then (slice_get xs) (slice_get places k)
  behind x xs [] k = refl
  behind x xs (p ∷ places) zero = refl
  behind x xs (p ∷ places) (suc k) = behind x xs places k

  read_by : (b : Bool) (x : X) (xs : List X) (places : List ℕ) (rest : List X) (k : ℕ)
      → ((j : ℕ) → option_and_then (slice_get xs) (slice_get places j) ≡ slice_get rest j)
      → option_and_then (slice_get (x ∷ xs)) (slice_get (if b then 0 ∷ map suc places else map suc places) k)
      ≡ slice_get (if b then x ∷ rest else rest) k
  read_by true x xs places rest zero ih = refl
  read_by true x xs places rest (suc k) ih = behind x xs places k ∙ ih k
  read_by false x xs places rest k ih = behind x xs places k ∙ ih k

  -- what stands at the place of a number is the member of this number
  pub read_at : (xs : List X) (k : ℕ)
      → option_and_then (slice_get xs) (slice_get (places_from test 0 xs) k) ≡ slice_get (filter test xs) k
  read_at [] k = refl
  read_at (x ∷ xs) k =
      ap (λ (places : List ℕ). option_and_then (slice_get (x ∷ xs)) (slice_get (if test x then 0 ∷ places else places) k)) (later xs 0)
      ∙ read_by (test x) x xs (places_from test 0 xs) (filter test xs) k (read_at xs)

module _ {X Y : Type 0} (f : X → Y) (test : Y → Bool) where
  mapped_by : (b : Bool) (x : X) (xs : List X) (ys : List Y) → map f xs ≡ ys → map f (if b then x ∷ xs else xs) ≡ (if b then f x ∷ ys else ys)
  mapped_by true x xs ys ih = ap (λ (zs : List Y). f x ∷ zs) ih
  mapped_by false x xs ys ih = ih

  mapped_test : (xs : List X) → map f (filter (λ x. test (f x)) xs) ≡ filter test (map f xs)
  mapped_test [] = refl
  mapped_test (x ∷ xs) = mapped_by (test (f x)) x (filter (λ y. test (f y)) xs) (filter test (map f xs)) (mapped_test xs)

  -- what is read at a place that is kept
  pub read_there : (xs : List X) (places : List ℕ) (k : ℕ) (place : Option ℕ) (o : Option X)
      → places ≡ places_from (λ x. test (f x)) 0 xs → place ≡ slice_get places k → o ≡ option_and_then (slice_get xs) place
      → option_map f o ≡ slice_get (filter test (map f xs)) k
  read_there xs places k place o are there is =
      ap (option_map f)
      (is ∙ ap (option_and_then (slice_get xs)) (there ∙ ap (λ (ps : List ℕ). slice_get ps k) are) ∙ read_at (λ x. test (f x)) xs k)
      ∙ sym (slice_get-map f (filter (λ x. test (f x)) xs) k) ∙ ap (λ (ys : List Y). slice_get ys k) (mapped_test xs)

-- one item more is taken
pub take_next : {X : Type 0} (xs : List X) (at : ℕ) (x : X) → slice_get xs at ≡ Some x → take (at + 1) xs ≡ take at xs ++ x ∷ []
take_next [] at x e = cc
take_next {X} (y ∷ xs) zero x e = let s : y ≡ x = cc in ap (λ (z : X). z ∷ []) s
take_next {X} (y ∷ xs) (suc at) x e =
    let s : suc at + 1 ≡ suc (at + 1) = omega arith in rw s (ap (λ (zs : List X). y ∷ zs) (take_next xs at x e))

pub drop_next : {X : Type 0} (xs : List X) (at : ℕ) (x : X) → slice_get xs at ≡ Some x → drop at xs ≡ x ∷ drop (at + 1) xs
drop_next [] at x e = cc
drop_next {X} (y ∷ xs) zero x e = let s : y ≡ x = cc in ap (λ (z : X). z ∷ xs) s
drop_next {X} (y ∷ xs) (suc at) x e = let s : suc at + 1 ≡ suc (at + 1) = omega arith in rw s (drop_next xs at x e)
