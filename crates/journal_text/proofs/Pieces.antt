-- Texts that stand on one line, put together.
use Rattle.std.proofs.Common.{◌≡◌, ◌==◌, ℕ, zero, suc, true, false, not, List, [], ◌∷◌, ◌++◌, map, replicate, slice_index, refl}
use Rattle.std.specs.List.{AllByRecursion, flat_map}
use Rattle.std.proofs.lemmas.Bool.{and_parts, not-true}
use Rattle.std.proofs.lemmas.List.Folds.{list_all-append}
use Rattle.ion_model.specs.Write.{parted}
use Rattle.journal_text.specs.OneLine.{is_one_line}

abbrev pub OneLine : List ℕ → Type 0
OneLine text = is_one_line text ≡ true

pub append_one_line : (xs ys : List ℕ) → OneLine xs → OneLine ys → OneLine (xs ++ ys)
append_one_line xs ys h k = rw (list_all-append (λ b. not (b == 10)) xs ys, h, k) refl

pub cons_one_line : (b : ℕ) (xs : List ℕ) → (b == 10) ≡ false → OneLine xs → OneLine (b ∷ xs)
cons_one_line b xs h k = rw (h, k) refl

pub replicate_one_line : (n b : ℕ) → (b == 10) ≡ false → OneLine (replicate n b)
replicate_one_line zero b h = refl
replicate_one_line (suc n) b h = cons_one_line b (replicate n b) h (replicate_one_line n b h)

pub flat_map_one_line : {X : Type 0} (f : X → List ℕ) → ((x : X) → OneLine (f x)) → (xs : List X) → OneLine (flat_map f xs)
flat_map_one_line f h [] = refl
flat_map_one_line f h (x ∷ xs) = append_one_line (f x) (flat_map f xs) (h x) (flat_map_one_line f h xs)

behind_one_line : (separator : ℕ) (pieces : List (List ℕ)) → (separator == 10) ≡ false → AllByRecursion OneLine pieces → OneLine (flat_map (λ next. separator ∷ next) pieces)
behind_one_line separator [] h all = refl
behind_one_line separator (piece ∷ more) h all = append_one_line (separator ∷ piece) _ (cons_one_line separator piece h all.0) (behind_one_line separator more h all.1)

pub parted_one_line : (separator : ℕ) (pieces : List (List ℕ)) → (separator == 10) ≡ false → AllByRecursion OneLine pieces → OneLine (parted separator pieces)
parted_one_line separator [] h all = refl
parted_one_line separator (piece ∷ more) h all = append_one_line piece _ all.0 (behind_one_line separator more h all.1)

-- texts of things, each with the proof that its text stands on one line
pub each_one_line : {X : Type 0} (text : X → List ℕ) (es : List ((x : X) × OneLine (text x))) → AllByRecursion OneLine (map text (map (λ e. e.0) es))
each_one_line text [] = tt
each_one_line text (e ∷ es) = (e.1, each_one_line text es)

-- no byte of such a text is a line feed, nor is what stands past its end
pub byte_at : (text : List ℕ) (i : ℕ) → OneLine text → (slice_index text i == 10) ≡ false
byte_at [] zero h = refl
byte_at [] (suc i) h = refl
byte_at (b ∷ text) zero h = not-true (b == 10) (and_parts (not (b == 10)) _ h).0
byte_at (b ∷ text) (suc i) h = byte_at text i (and_parts (not (b == 10)) _ h).1
