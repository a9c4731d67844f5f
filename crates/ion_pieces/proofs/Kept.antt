-- What stands in front of white space doesn't change with what follows that.
use Rattle.std.proofs.Common.{◌≡◌, ◌≤◌, ◌+◌, ◌&&◌, ℕ, zero, suc, Bool, true, false, not, nat_eq, List, [], ◌∷◌, ◌++◌, length, take, get_or, Option, Some, None, option_map, cond, if◌then◌else◌, refl, ap, sym, ◌∙◌, arith}
use Rattle.std.specs.Prelude.{slice_get, option_and_then}
use Rattle.std.specs.List.{list_all, prefix_len}
use Rattle.std.proofs.lemmas.Bool.{and_parts, cond_both, not_from_true}
use Rattle.std.proofs.lemmas.List.{take-append-le}
use Rattle.ion_model.specs.Blanks.{begins, is_space}
use Rattle.ion_text.proofs.WrittenRuns.{differs}

-- ---- counts that may be missing

-- a count is the same in the longer text
abbrev pub Keeps : Option ℕ → Option ℕ → Type 0
Keeps None o = Unit {0}
Keeps (Some n) o = o ≡ Some n

abbrev pub AtMost : ℕ → Option ℕ → Type 0
AtMost n None = Unit {0}
AtMost n (Some k) = k ≤ n

pub keeps_if : (t u : Bool) (a b o p : Option ℕ) → u ≡ t → (t ≡ true → Keeps a b) → (t ≡ false → Keeps o p) → Keeps (if t then a else o) (if u then b else p)
keeps_if true u a b o p e f g = rw e (f refl)
keeps_if false u a b o p e f g = rw e (g refl)

pub keeps_map : (f : ℕ → ℕ) (o p : Option ℕ) → Keeps o p → Keeps (option_map f o) (option_map f p)
keeps_map f None p h = tt
keeps_map f (Some n) p h = ap (option_map f) h

pub keeps_then : (f g : ℕ → Option ℕ) (o p : Option ℕ) → Keeps o p → ((k : ℕ) → Keeps (f k) (g k)) → Keeps (option_and_then f o) (option_and_then g p)
keeps_then f g None p h k = tt
keeps_then f g (Some n) p h k = rw h (k n)

pub at_most_suc : (n : ℕ) (o : Option ℕ) → AtMost n o → AtMost (suc n) (option_map suc o)
at_most_suc n None h = tt
at_most_suc n (Some k) h = omega arith

pub at_most_then : (n : ℕ) (f : ℕ → Option ℕ) (o : Option ℕ) → ((k : ℕ) → AtMost n (f k)) → AtMost n (option_and_then f o)
at_most_then n f None h = tt
at_most_then n f (Some k) h = h k

-- ---- white space

apart : (c s : ℕ) → is_space s ≡ true → not (is_space c) ≡ true → nat_eq c s ≡ false
apart c s w h = differs (λ x. not (is_space x)) c s h (not_from_true (is_space s) w)

-- a text without white space
abbrev pub is_dark : List ℕ → Bool
is_dark z = list_all (λ c. not (is_space c)) z

module _ (s : ℕ) (w : is_space s ≡ true) where
  -- such a text begins in front of white space or not at all
  pub begins_fits : (front y : List ℕ) → is_dark front ≡ true → begins front (y ++ s ∷ []) ≡ true → length front ≤ length y
  begins_fits [] y h k = omega arith
  begins_fits (c ∷ front) [] h k =
      let first : nat_eq c s ≡ true = (and_parts (nat_eq c s) _ k).0 in
      let other : nat_eq c s ≡ false = apart c s w (and_parts (not (is_space c)) _ h).0 in
      absurd (let no : true ≡ false = sym first ∙ other in cc)
  begins_fits (c ∷ front) (b ∷ y) h k =
      let rest = begins_fits front y (and_parts (not (is_space c)) _ h).1 (and_parts (nat_eq c b) _ k).1 in
      omega arith

  module _ (more : List ℕ) where
    pub begins_kept : (front y : List ℕ) → is_dark front ≡ true → begins front (y ++ s ∷ more) ≡ begins front (y ++ s ∷ [])
    begins_kept [] y h = refl
    begins_kept (c ∷ front) [] h =
        let other : nat_eq c s ≡ false = apart c s w (and_parts (not (is_space c)) _ h).0 in
        rw other refl
    begins_kept (c ∷ front) (b ∷ y) h = ap (λ t. nat_eq c b && t) (begins_kept front y (and_parts (not (is_space c)) _ h).1)

-- ---- counts and parts

module _ (s : ℕ) (more : List ℕ) where
  pub take_kept : (n : ℕ) (y : List ℕ) → n ≤ length y → take n (y ++ s ∷ more) ≡ take n (y ++ s ∷ [])
  take_kept n y h = take-append-le n y (s ∷ more) h ∙ sym (take-append-le n y (s ∷ []) h)

  pub get_kept : (n : ℕ) (y : List ℕ) → n ≤ length y → slice_get (y ++ s ∷ more) n ≡ slice_get (y ++ s ∷ []) n
  get_kept zero [] h = refl
  get_kept zero (b ∷ y) h = refl
  get_kept (suc n) [] h = absurd (omega arith)
  get_kept (suc n) (b ∷ y) h = get_kept n y (omega arith)

  pub first_kept : (y : List ℕ) → get_or (y ++ s ∷ more) 0 0 ≡ get_or (y ++ s ∷ []) 0 0
  first_kept [] = refl
  first_kept (b ∷ y) = refl

  module _ (p : ℕ → Bool) (stops : p s ≡ false) where
    pub prefix_kept : (y : List ℕ) → prefix_len p (y ++ s ∷ more) ≡ prefix_len p (y ++ s ∷ [])
    prefix_kept [] = rw stops refl
    prefix_kept (b ∷ y) = ap (λ n. cond (p b) (1 + n) 0) (prefix_kept y)

    pub prefix_within : (y : List ℕ) → prefix_len p (y ++ s ∷ []) ≤ length y
    prefix_within [] = rw stops (omega arith)
    prefix_within (b ∷ y) = let rest = prefix_within y in cond_both (p b) (1 + prefix_len p (y ++ s ∷ [])) 0 (λ n. n ≤ suc (length y)) (λ _. omega arith) (λ _. omega arith)
