-- What is made of each member, as far as a loop has come.
use Rattle.std.proofs.Common.{◌≡◌, ◌∙◌, ℕ, ◌+◌, ◌<◌, ◌≤◌, List, [], ◌∷◌, ◌++◌, length, get_or, drop, Option, Some, None, refl, sym, ap, append_assoc, append-nil}
use Rattle.std.specs.Prelude.{option_map}
use Rattle.std.proofs.lemmas.List.{drop_more, drop_all}
use Rattle.ledger_model.specs.Script.{and_then, each}

-- with what was made so far in front
abbrev pub behind : {B : Type 0} → List B → Option (List B) → Option (List B)
behind made rest = option_map (λ ys. made ++ ys) rest

front_is : {A : Type 0} (xs : List A) (i : ℕ) (x : A) → i < length xs → x ≡ get_or xs i x → drop i xs ≡ x ∷ drop (i + 1) xs
front_is {A} xs i x within is = drop_more xs i x within ∙ ap (λ (y : A). y ∷ drop (i + 1) xs) (sym is)

put_front : {B : Type 0} (made : List B) (y : B) (rest : Option (List B)) → behind made (option_map (λ ys. y ∷ ys) rest) ≡ behind (made ++ y ∷ []) rest
put_front {B} made y None = refl
put_front {B} made y (Some ys) = ap (λ (zs : List B). Some zs) (sym (append_assoc made (y ∷ []) ys))

pub start : {B : Type 0} (all : Option (List B)) → behind [] all ≡ all
start None = refl
start (Some ys) = refl

module _ {A B : Type 0} (f : A → Option B) (xs : List A) (made : List B) (all : Option (List B)) where
  -- the next one is there
  pub each_more :
      (i : ℕ) (x : A) (y : B) → behind made (each f (drop i xs)) ≡ all → i < length xs → x ≡ get_or xs i x → f x ≡ Some y
      → behind (made ++ y ∷ []) (each f (drop (i + 1) xs)) ≡ all
  each_more i x y so_far within is there =
      sym (put_front made y (each f (drop (i + 1) xs)))
      ∙ ap (λ (o : Option B). behind made (and_then o (λ z. option_map (λ ys. z ∷ ys) (each f (drop (i + 1) xs))))) (sym there)
      ∙ ap (λ (zs : List A). behind made (each f zs)) (sym (front_is xs i x within is)) ∙ so_far

  -- or it isn't
  pub each_none : (i : ℕ) (x : A) → behind made (each f (drop i xs)) ≡ all → i < length xs → x ≡ get_or xs i x → f x ≡ None → None ≡ all
  each_none i x so_far within is none =
      ap (λ (o : Option B). behind made (and_then o (λ z. option_map (λ ys. z ∷ ys) (each f (drop (i + 1) xs))))) (sym none)
      ∙ ap (λ (zs : List A). behind made (each f zs)) (sym (front_is xs i x within is)) ∙ so_far

  pub each_all : (i : ℕ) → behind made (each f (drop i xs)) ≡ all → length xs ≤ i → Some made ≡ all
  each_all i so_far past =
      ap (λ (ys : List B). Some ys) (sym (append-nil made)) ∙ ap (λ (zs : List A). behind made (each f zs)) (sym (drop_all i xs past)) ∙ so_far
