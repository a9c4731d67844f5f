-- What a walk over members, and over fields, determines so far.
use Rattle.std.proofs.Common.{◌≡◌, ◌≢◌, ◌∙◌, ℕ, ◌+◌, ◌<◌, ◌≤◌, ◌&&◌, not, Bool, true, false, true≢false, List, [], ◌∷◌, ◌++◌, map, length, drop, get_or, refl, sym, ap, subst, add-one, drop-cons}
use Rattle.std.specs.Prelude.{IfOk, Result, Ok, Err}
use Rattle.std.specs.List.{All, AllByRecursion}
use Rattle.std.specs.Str.{bytes_eq}
use Rattle.std.specs.declared.option.Option.{Option}
use Rattle.std.specs.declared.option.Option.TheVariants.{None, Some}
use Rattle.std.proofs.lemmas.List.{drop_all}
use Rattle.std.proofs.lemmas.List.Elements.{All-from_recursion}
use Rattle.std.specs.Cmp.Lexicographic.{bytes_decides}
use Rattle.sha2.specs.Sha256.{sha256}
use Rattle.ion_values.specs.declared.value.Value.{Value}
use Rattle.ion_values.specs.declared.value.Field.{Field}
use Rattle.ion_values.specs.Equivalent.{in_order, is_equivalent}
use Rattle.ion_values.proofs.Relation.{at_field}
use Rattle.hash_model.specs.Serialize.{serialize, symbol_bytes}
use Rattle.ion_extract.specs.declared.find.Pair.{Pair}
use Rattle.ion_extract.specs.Compared.{Finds}
use Rattle.ion_extract.specs.Laws.{AreOne}
use Rattle.ion_extract.proofs.Hashes.{field_is}
use Rattle.ion_extract.proofs.Levels.{field_form_is_injective}

-- what is left from a place on is the member there and those after it
opens : {A : Type 0} (xs : List A) (at : ℕ) (x : A) → at < length xs → x ≡ get_or xs at x → drop at xs ≡ x ∷ drop (at + 1) xs
opens xs at x h is = drop-cons xs at x h ∙ (λ i. sym is i ∷ drop (sym (add-one at) i) xs)

-- ---- members in order

head_of : List (List ℕ) → List ℕ
head_of [] = []
head_of (x ∷ xs) = x

tail_of : List (List ℕ) → List (List ℕ)
tail_of [] = []
tail_of (x ∷ xs) = xs

parts : (x y : List ℕ) (xs ys : List (List ℕ)) → x ∷ xs ≡ y ∷ ys → (x ≡ y) × (xs ≡ ys)
unfolding head_of tail_of
parts x y xs ys e = (ap head_of e, ap tail_of e)

pub bytes_next : (vs ws : List Value) (at : ℕ) (v w : Value) → at < length vs → at < length ws → v ≡ get_or vs at v → w ≡ get_or ws at w
    → map serialize (drop at vs) ≡ map serialize (drop at ws)
    → (serialize v ≡ serialize w) × (map serialize (drop (at + 1) vs) ≡ map serialize (drop (at + 1) ws))
bytes_next vs ws at v w h k is are e =
    parts (serialize v) (serialize w) (map serialize (drop (at + 1) vs)) (map serialize (drop (at + 1) ws))
    (ap (map serialize) (sym (opens vs at v h is)) ∙ e ∙ ap (map serialize) (opens ws at w k are))

pub told_next : (vs ws : List Value) (at : ℕ) (v w : Value) → at < length vs → at < length ws → v ≡ get_or vs at v → w ≡ get_or ws at w
    → is_equivalent v w ≡ true
    → in_order (map is_equivalent (drop (at + 1) vs)) (drop (at + 1) ws) ≡ in_order (map is_equivalent (drop at vs)) (drop at ws)
told_next vs ws at v w h k is are same =
    (λ i. sym same i && in_order (map is_equivalent (drop (at + 1) vs)) (drop (at + 1) ws))
    ∙ (λ i. in_order (map is_equivalent (sym (opens vs at v h is) i)) (sym (opens ws at w k are) i))

pub told_last : (vs ws : List Value) (at : ℕ) → length vs ≤ at → length ws ≤ at
    → in_order (map is_equivalent (drop at vs)) (drop at ws) ≡ in_order (map is_equivalent vs) ws → in_order (map is_equivalent vs) ws ≡ true
told_last vs ws at h k e = sym e ∙ (λ i. in_order (map is_equivalent (drop_all at vs h i)) (drop_all at ws k i))

-- ---- each of a list

pub all_next : {A : Type 0} (P : A → Type 0) (R : Type 0) (xs : List A) (at : ℕ) (x : A) → at < length xs → x ≡ get_or xs at x → P x
    → (AllByRecursion P (drop at xs) → R) → AllByRecursion P (drop (at + 1) xs) → R
all_next P R xs at x h is p so_far rest = so_far (subst (AllByRecursion P) (sym (opens xs at x h is)) (p, rest))

pub all_last : {A : Type 0} (P : A → Type 0) (xs : List A) (at : ℕ) → length xs ≤ at
    → (AllByRecursion P (drop at xs) → AllByRecursion P xs) → All P xs
all_last P xs at h so_far = All-from_recursion P xs (so_far (subst (AllByRecursion P) (sym (drop_all at xs h)) tt))

-- ---- what is found

pub found_for : {E : Type 0} (P Q : Type 0) → (P → Q) → (r : Result (Option Pair) E) → IfOk r (Finds P)
    → IfOk r (Finds Q)
found_for P Q f (Ok None) h = f h
found_for P Q f (Ok (Some pair)) h = h
found_for P Q f (Err e) h = h

-- ---- bytes that are compared

true_from : (b : Bool) → not b ≡ false → b ≡ true
true_from true h = refl
true_from false h = sym h

pub apart : (r : Bool) (a b : List ℕ) → r ≡ not (bytes_eq a b) → r ≡ true → a ≢ b
apart r a b e h same = true≢false (sym h ∙ e ∙ ap not ((bytes_decides a b).1 same))

pub equal : (r : Bool) (a b : List ℕ) → r ≡ not (bytes_eq a b) → r ≡ false → a ≡ b
equal r a b e h = (bytes_decides a b).0 (true_from (bytes_eq a b) (sym e ∙ h))

-- ---- two fields

abbrev form : Field → List ℕ
form f = symbol_bytes f.name ++ serialize f.value

pub other_hashes : (f g : Field) → sha256 (form f) ≢ sha256 (form g) → AreOne f g
other_hashes f g apart e = absurd (apart (sym (field_is f) ∙ e ∙ field_is g))

pub one_value : (f g : Field) → form f ≡ form g → serialize f.value ≡ serialize g.value
one_value f g e = (field_form_is_injective f g e).1

pub one_field : (f g : Field) → form f ≡ form g → is_equivalent f.value g.value ≡ true → AreOne f g
one_field f g e same hashes =
    let name : bytes_eq f.name g.name ≡ true = (bytes_decides f.name g.name).1 (field_form_is_injective f g e).0 in
    at_field f g ∙ (λ i. name i && same i)

-- the two forms, as they are at hand and as they were compared
pub one_form : (f g : Field) (first second a b : List ℕ) (r : Bool) → first ≡ form f → second ≡ form g → a ≡ first → b ≡ second
    → r ≡ not (bytes_eq a b) → r ≡ false → form f ≡ form g
one_form f g first second a b r is are x y e h = sym (x ∙ is) ∙ equal r a b e h ∙ (y ∙ are)
