-- What is made of each member, as far as a loop has come.
use Rattle.std.proofs.Common.{◌≡◌, ◌∙◌, ℕ, ◌+◌, ◌<◌, ◌≤◌, List, [], ◌∷◌, ◌++◌, length, get_or, drop, true, false, if◌then◌else◌, Option, Some, None, Result, Ok, Err, refl, sym, ap, append_assoc, append-nil}
use Rattle.std.specs.Prelude.{option_map}
use Rattle.std.proofs.lemmas.List.{drop_more, drop_all}
use Rattle.ledger_model.specs.ReadScript.{has_name, if_read, named, read_each}
use Rattle.ledger_model.specs.Script.{and_then, each}
use Rattle.ion_values.specs.declared.value.Field.{Field}
use Rattle.ion_values.specs.declared.value.Value.{Value}
use Rattle.ledger_model.specs.declared.script.ScriptFault.{ScriptFault}
use Rattle.script_form.specs.Answers.{Gives}
use Rattle.script_form.specs.declared.scripts.ScriptAnswer.{ScriptAnswer}
use Rattle.script_form.specs.declared.scripts.ScriptAnswer.TheVariants as answer

-- with what was made so far in front
abbrev pub behind : {B : Type 0} → List B → Option (List B) → Option (List B)
behind made rest = option_map (λ ys. made ++ ys) rest

-- each item's value, up to the first fault
abbrev pub read_behind : {B E : Type 0} → List B → Result (List B) E → Result (List B) E
read_behind made rest = if_read rest (λ ys. Ok (made ++ ys))

front_is : {A : Type 0} (xs : List A) (i : ℕ) (x : A) → i < length xs → x ≡ get_or xs i x → drop i xs ≡ x ∷ drop (i + 1) xs
front_is {A} xs i x within is = drop_more xs i x within ∙ ap (λ (y : A). y ∷ drop (i + 1) xs) (sym is)

-- ---- where each is there

put_front : {B : Type 0} (made : List B) (y : B) (rest : Option (List B)) → behind made (option_map (λ ys. y ∷ ys) rest) ≡ behind (made ++ y ∷ []) rest
put_front {B} made y None = refl
put_front {B} made y (Some ys) = ap (λ (zs : List B). Some zs) (sym (append_assoc made (y ∷ []) ys))

pub start : {B : Type 0} (all : Option (List B)) → behind [] all ≡ all
start None = refl
start (Some ys) = refl

module _ {A B : Type 0} (f : A → Option B) (xs : List A) (made : List B) (all : Option (List B)) where
  -- the next one is there
  pub each_more :
      (i : ℕ) (x : A) (y : B) → behind made (each f (drop i xs)) ≡ all → i < length xs → x ≡ get_or xs i x → f x ≡ Some y
      → behind (made ++ y ∷ []) (each f (drop (i + 1) xs)) ≡ all
  each_more i x y so_far within is there =
      sym (put_front made y (each f (drop (i + 1) xs)))
      ∙ ap (λ (o : Option B). behind made (and_then o (λ z. option_map (λ ys. z ∷ ys) (each f (drop (i + 1) xs))))) (sym there)
      ∙ ap (λ (zs : List A). behind made (each f zs)) (sym (front_is xs i x within is)) ∙ so_far

  -- or it isn't
  pub each_none : (i : ℕ) (x : A) → behind made (each f (drop i xs)) ≡ all → i < length xs → x ≡ get_or xs i x → f x ≡ None → None ≡ all
  each_none i x so_far within is none =
      ap (λ (o : Option B). behind made (and_then o (λ z. option_map (λ ys. z ∷ ys) (each f (drop (i + 1) xs))))) (sym none)
      ∙ ap (λ (zs : List A). behind made (each f zs)) (sym (front_is xs i x within is)) ∙ so_far

  pub each_all : (i : ℕ) → behind made (each f (drop i xs)) ≡ all → length xs ≤ i → Some made ≡ all
  each_all i so_far past =
      ap (λ (ys : List B). Some ys) (sym (append-nil made)) ∙ ap (λ (zs : List A). behind made (each f zs)) (sym (drop_all i xs past)) ∙ so_far

-- ---- the field of a name

module _ (name : List ℕ) (fs : List Field) (i : ℕ) (all : Option Value) (so_far : named name (drop i fs) ≡ all) where
  named_here : (f : Field) → i < length fs → f ≡ get_or fs i f → (if has_name name f then Some f.value else named name (drop (i + 1) fs)) ≡ all
  named_here f within is = ap (named name) (sym (front_is fs i f within is)) ∙ so_far

  pub named_more : (f : Field) → i < length fs → f ≡ get_or fs i f → has_name name f ≡ false → named name (drop (i + 1) fs) ≡ all
  named_more f within is other = rw other at (named_here f within is)

  pub named_at : (f : Field) → i < length fs → f ≡ get_or fs i f → has_name name f ≡ true → Some f.value ≡ all
  named_at f within is same = rw same at (named_here f within is)

  pub named_nowhere : length fs ≤ i → None ≡ all
  named_nowhere past = ap (named name) (sym (drop_all i fs past)) ∙ so_far

-- ---- up to the first fault

read_front :
    {B E : Type 0} (made : List B) (y : B) (rest : Result (List B) E)
    → read_behind made (if_read rest (λ ys. Ok (y ∷ ys))) ≡ read_behind (made ++ y ∷ []) rest
read_front made y (Ok ys) = ap (λ zs. Ok zs) (sym (append_assoc made (y ∷ []) ys))
read_front made y (Err e) = refl

pub read_start : {B E : Type 0} (all : Result (List B) E) → read_behind [] all ≡ all
read_start (Ok ys) = refl
read_start (Err e) = refl

module _ {A B E : Type 0} (read : ℕ → A → Result B E) (xs : List A) (made : List B) (all : Result (List B) E) where
  -- the next one is read
  pub read_more :
      (i n : ℕ) (x : A) (y : B) → read_behind made (read_each read n (drop i xs)) ≡ all → i < length xs → x ≡ get_or xs i x → read n x ≡ Ok y
      → read_behind (made ++ y ∷ []) (read_each read (n + 1) (drop (i + 1) xs)) ≡ all
  read_more i n x y so_far within is ok =
      sym (read_front made y (read_each read (n + 1) (drop (i + 1) xs)))
      ∙ ap (λ (r : Result B E). read_behind made (if_read r (λ z. if_read (read_each read (n + 1) (drop (i + 1) xs)) (λ ys. Ok (z ∷ ys))))) (sym ok)
      ∙ ap (λ (zs : List A). read_behind made (read_each read n zs)) (sym (front_is xs i x within is)) ∙ so_far

  -- or it is at fault
  pub read_fault :
      (i n : ℕ) (x : A) (e : E) → read_behind made (read_each read n (drop i xs)) ≡ all → i < length xs → x ≡ get_or xs i x → read n x ≡ Err e
      → all ≡ Err e
  read_fault i n x e so_far within is fault =
      sym so_far ∙ ap (λ (zs : List A). read_behind made (read_each read n zs)) (front_is xs i x within is)
      ∙ ap (λ (r : Result B E). read_behind made (if_read r (λ z. if_read (read_each read (n + 1) (drop (i + 1) xs)) (λ ys. Ok (z ∷ ys))))) fault

  pub read_all : (i n : ℕ) → read_behind made (read_each read n (drop i xs)) ≡ all → length xs ≤ i → all ≡ Ok made
  read_all i n so_far past =
      sym so_far ∙ ap (λ (zs : List A). read_behind made (read_each read n zs)) (drop_all i xs past) ∙ ap (λ ys. Ok ys) (append-nil made)

-- the fault of one is that of all
pub gives_fault :
    {A B : Type 0} (a : ScriptAnswer) (one : Result A ScriptFault) (all : Result B ScriptFault)
    → ((f : ScriptFault) → one ≡ Err f → all ≡ Err f) → Gives (Err a) one → Gives (Err a) all
gives_fault (answer.Fault session transaction kind) one all same told = same _ told
gives_fault answer.OutOfMemory one all same told = tt
