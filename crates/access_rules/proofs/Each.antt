-- What is made of each member, as far as a loop has come.
use Rattle.std.proofs.Common.{◌≡◌, ◌∙◌, ℕ, ◌+◌, ◌<◌, ◌≤◌, List, [], ◌∷◌, ◌++◌, length, get_or, drop, Option, Some, None, Err, refl, sym, ap, append_assoc, append-nil}
use Rattle.std.specs.Prelude.{option_map}
use Rattle.std.proofs.lemmas.List.{drop_more, drop_all}
use Rattle.access_rules.specs.Answers.{Reads}
use Rattle.ledger_model.specs.Script.{and_then, each}
use Rattle.access_rules.specs.declared.rule.RulesAnswer.{RulesAnswer}
use Rattle.access_rules.specs.declared.rule.RulesAnswer.TheVariants as answer

-- what was made so far, and then the rest
abbrev pub with_made : {B : Type 0} → List B → Option (List B) → Option (List B)
with_made made rest = option_map (λ ys. made ++ ys) rest

front_is : {A : Type 0} (xs : List A) (i : ℕ) (x : A) → i < length xs → x ≡ get_or xs i x → drop i xs ≡ x ∷ drop (i + 1) xs
front_is {A} xs i x within is = drop_more xs i x within ∙ ap (λ (y : A). y ∷ drop (i + 1) xs) (sym is)

put_front : {B : Type 0} (made : List B) (y : B) (rest : Option (List B)) → with_made made (option_map (λ ys. y ∷ ys) rest) ≡ with_made (made ++ y ∷ []) rest
put_front {B} made y None = refl
put_front {B} made y (Some ys) = ap (λ (zs : List B). Some zs) (sym (append_assoc made (y ∷ []) ys))

pub start : {B : Type 0} (all : Option (List B)) → with_made [] all ≡ all
start None = refl
start (Some ys) = refl

module _ {A B : Type 0} (f : A → Option B) (xs : List A) (made : List B) (all : Option (List B)) where
  -- the next one is there
  pub each_more :
      (i : ℕ) (x : A) (y : B) → with_made made (each f (drop i xs)) ≡ all → i < length xs → x ≡ get_or xs i x → f x ≡ Some y
      → with_made (made ++ y ∷ []) (each f (drop (i + 1) xs)) ≡ all
  each_more i x y so_far within is there =
      sym (put_front made y (each f (drop (i + 1) xs)))
      ∙ ap (λ (o : Option B). with_made made (and_then o (λ z. option_map (λ ys. z ∷ ys) (each f (drop (i + 1) xs))))) (sym there)
      ∙ ap (λ (zs : List A). with_made made (each f zs)) (sym (front_is xs i x within is)) ∙ so_far

  -- or it isn't
  pub each_none : (i : ℕ) (x : A) → with_made made (each f (drop i xs)) ≡ all → i < length xs → x ≡ get_or xs i x → f x ≡ None → all ≡ None
  each_none i x so_far within is none =
      sym so_far ∙ ap (λ (zs : List A). with_made made (each f zs)) (front_is xs i x within is)
      ∙ ap (λ (o : Option B). with_made made (and_then o (λ z. option_map (λ ys. z ∷ ys) (each f (drop (i + 1) xs))))) none

  pub each_all : (i : ℕ) → with_made made (each f (drop i xs)) ≡ all → length xs ≤ i → all ≡ Some made
  each_all i so_far past =
      sym so_far ∙ ap (λ (zs : List A). with_made made (each f zs)) (drop_all i xs past) ∙ ap (λ (ys : List B). Some ys) (append-nil made)

-- if one part is none the whole is none
pub reads_none :
    {A B : Type 0} (a : RulesAnswer) (one : Option A) (all : Option B) → (one ≡ None → all ≡ None) → Reads (Err a) one → Reads (Err a) all
reads_none answer.BadRules one all same none = same none
reads_none answer.NoSuchRules one all same never = never
reads_none answer.OutOfMemory one all same told = tt
