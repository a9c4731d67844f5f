-- Structs are equivalent where each field stands as often in the one as in the other.
use Rattle.std.proofs.Common.{◌≡◌, ◌≢◌, ℕ, ◌+◌, ◌<◌, ◌==◌, ◌&&◌, Bool, true, false, not, cond, List, [], ◌∷◌, ◌++◌, length, drop, take, get_or, refl, sym, ap, ◌∙◌, subst, arith, true≢false, add-one, drop-cons, length-drop, ◌-◌, ◌≤◌, IsTrue}
use Rattle.std.proofs.lemmas.List.{take-append-drop, take_rest, drop-drop, drop_all}
use Rattle.std.specs.List.{AllByRecursion, count_by, list_all}
use Rattle.std.proofs.lemmas.Bool.Decides.{Decides-eqb}
use Rattle.ion_values.specs.declared.value.Field.{Field}
use Rattle.ion_values.specs.Equivalent.{differ_first, is_equivalent_field}
use Rattle.ion_values.proofs.Matching.{first, second, matches, matches-length, counted, from_counts, count-cons, count-append, Good}
use Rattle.ion_values.proofs.Relation.{good_field, good_value, own_field}

pub good : (f : Field) → Good is_equivalent_field f
good f = good_field f (good_value f.value)

goods : (fs : List Field) → AllByRecursion (Good is_equivalent_field) fs
goods [] = tt
goods (f ∷ fs) = (good f, goods fs)

-- a field counts itself
pub count-itself : (f : Field) (before after : List Field) → count_by (is_equivalent_field f) (before ++ f ∷ after) ≡ count_by (is_equivalent_field f) before + 1 + count_by (is_equivalent_field f) after
count-itself f before after =
    let one : cond {A = ℕ} (is_equivalent_field f f) 1 0 ≡ 1 = ap (λ b. cond b 1 0) (own_field f) in
    omega (arith, count-append (is_equivalent_field f) before (f ∷ after), count-cons (is_equivalent_field f) f after)

by_false : (b : Bool) → (b ≡ true → ⊥) → false ≡ b
by_false false h = refl
by_false true h = absurd (h refl)

pub other_lengths : (xs ys : List Field) → length xs ≢ length ys → false ≡ matches is_equivalent_field xs ys
other_lengths xs ys h = by_false _ (λ e. h (matches-length is_equivalent_field xs ys e))

pub other_counts : (f : Field) (xs ys : List Field) → (count_by (is_equivalent_field f) xs == count_by (is_equivalent_field f) ys) ≡ false → false ≡ matches is_equivalent_field xs ys
other_counts f xs ys h =
    by_false _ (λ e. true≢false (sym ((Decides-eqb _ _).1 (counted is_equivalent_field own_field xs ys (goods xs) e f (good f))) ∙ h))

-- the first on the right does not count for one that it isn't equivalent to
pub count-other : (x y : Field) (ys : List Field) → is_equivalent_field x y ≡ false → count_by (is_equivalent_field x) (y ∷ ys) ≡ count_by (is_equivalent_field x) ys
count-other x y ys h =
    let none : cond {A = ℕ} (is_equivalent_field x y) 1 0 ≡ 0 = ap (λ b. cond b 1 0) h in
    omega (arith, count-cons (is_equivalent_field x) y ys)

each_told : (m n : Field → ℕ) (fs : List Field) → list_all (λ f. m f == n f) fs ≡ true → AllByRecursion (λ f. m f ≡ n f) fs
each_told m n [] h = tt
each_told m n (f ∷ fs) h = ((Decides-eqb _ _).0 (first _ _ h), each_told m n fs (second _ _ h))

pub same_counts_tell : (x : Field) (xs ys : List Field) → length (x ∷ xs) ≡ length ys → count_by (is_equivalent_field x) (x ∷ xs) ≡ count_by (is_equivalent_field x) ys → list_all (λ f. count_by (is_equivalent_field f) (x ∷ xs) == count_by (is_equivalent_field f) ys) xs ≡ true → true ≡ matches is_equivalent_field (x ∷ xs) ys
same_counts_tell x xs ys l h k =
    sym (from_counts is_equivalent_field own_field (x ∷ xs) ys (goods (x ∷ xs)) l (h, each_told (λ f. count_by (is_equivalent_field f) (x ∷ xs)) (λ f. count_by (is_equivalent_field f) ys) xs k))

tell_from : (x : Field) (xs zs ys : List Field) → zs ≡ x ∷ xs → length zs ≡ length ys → count_by (is_equivalent_field x) zs ≡ count_by (is_equivalent_field x) ys → list_all (λ f. count_by (is_equivalent_field f) zs == count_by (is_equivalent_field f) ys) xs ≡ true → true ≡ matches is_equivalent_field zs ys
tell_from x xs zs ys e =
    subst (λ z. length z ≡ length ys → count_by (is_equivalent_field x) z ≡ count_by (is_equivalent_field x) ys → list_all (λ f. count_by (is_equivalent_field f) z == count_by (is_equivalent_field f) ys) xs ≡ true → true ≡ matches is_equivalent_field z ys) (sym e) (same_counts_tell x xs ys)

-- the fields from one on are that one and those after it
opens : (a : List Field) (at : ℕ) (f : Field) → at < length a → f ≡ get_or a at f → drop at a ≡ f ∷ drop (at + 1) a
opens a at f h is = drop-cons a at f h ∙ (λ i. sym is i ∷ drop (sym (add-one at) i) a)

pieces : (a : List Field) (from at : ℕ) (f : Field) → from ≤ at → at < length a → f ≡ get_or a at f → take (at - from) (drop from a) ++ f ∷ take (length a - (at + 1)) (drop (at + 1) a) ≡ drop from a
pieces a from at f low high is =
    let whole : drop (at - from) (drop from a) ≡ drop at a = drop-drop (at - from) from a ∙ ap (λ n. drop n a) (omega arith) in
    ap (λ l. take (at - from) (drop from a) ++ f ∷ l) (take_rest a (at + 1))
    ∙ ap (λ l. take (at - from) (drop from a) ++ l) (sym (opens a at f high is) ∙ sym whole)
    ∙ take-append-drop (at - from) (drop from a)

-- one level of the loop that counts
pub field_told : (a b : List Field) (from at : ℕ) (f : Field) → from ≤ at → at < length a → f ≡ get_or a at f → (count_by (is_equivalent_field f) (take (at - from) (drop from a) ++ f ∷ take (length a - (at + 1)) (drop (at + 1) a)) == count_by (is_equivalent_field f) (take (length b - from) (drop from b))) ≡ (count_by (is_equivalent_field f) (drop from a) == count_by (is_equivalent_field f) (drop from b))
field_told a b from at f low high is =
    λ i. count_by (is_equivalent_field f) (pieces a from at f low high is i) == count_by (is_equivalent_field f) (take_rest b from i)

not_so : (b : Bool) → IsTrue (not b) → b ≡ false
not_so false h = refl
not_so true h = let bad : ⊥ = cc in absurd bad

pub first_told : (a b : List Field) (from : ℕ) (x : Field) → length a ≡ length b → IsTrue (differ_first (drop from a) (drop from b)) → from < length a → x ≡ get_or a from x → (count_by (is_equivalent_field x) (take (from - from) (drop from a) ++ x ∷ take (length a - (from + 1)) (drop (from + 1) a)) == count_by (is_equivalent_field x) (take (length b - (from + 1)) (drop (from + 1) b))) ≡ (count_by (is_equivalent_field x) (drop from a) == count_by (is_equivalent_field x) (drop from b))
first_told a b from x l d high is =
    let y : Field = get_or b from x in
    let ys : List Field = drop (from + 1) b in
    let eb : drop from b ≡ y ∷ ys = drop-cons b from x (omega arith) ∙ ap (λ n. get_or b from x ∷ drop n b) (sym (add-one from)) in
    let apart : is_equivalent_field x y ≡ false = not_so _ (subst IsTrue (λ i. differ_first (opens a from x high is i) (eb i)) d) in
    let right : count_by (is_equivalent_field x) (take (length b - (from + 1)) (drop (from + 1) b)) ≡ count_by (is_equivalent_field x) (drop from b) =
    ap (count_by (is_equivalent_field x)) (take_rest b (from + 1)) ∙ sym (count-other x y ys apart) ∙ ap (count_by (is_equivalent_field x)) (sym eb) in
    λ i. count_by (is_equivalent_field x) (pieces a from from x (omega arith) high is i) == right i

pub within_first : (a b : List Field) (from : ℕ) → IsTrue (differ_first (drop from a) (drop from b)) → from < length a
within_first a b from d = by_length (drop from a) refl d
  where
    by_length : (l : List Field) → drop from a ≡ l → IsTrue (differ_first l (drop from b)) → from < length a
    by_length [] e h = let bad : ⊥ = cc in absurd bad
    by_length (x ∷ xs) e h = omega (arith, ap length e, length-drop from a)

pub step_told : (p : Field → Bool) (a : List Field) (at : ℕ) (f : Field) → at < length a → f ≡ get_or a at f → p f ≡ true → list_all p (drop (at + 1) a) ≡ list_all p (drop at a)
step_told p a at f high is h =
    (λ i. sym h i && list_all p (drop (at + 1) a)) ∙ ap (list_all p) (sym (opens a at f high is))

pub all_told : (a b : List Field) (from at : ℕ) (x : Field) → length a ≡ length b → from < length a → x ≡ get_or a from x → (count_by (is_equivalent_field x) (drop from a) == count_by (is_equivalent_field x) (drop from b)) ≡ true → list_all (λ f. count_by (is_equivalent_field f) (drop from a) == count_by (is_equivalent_field f) (drop from b)) (drop at a) ≡ list_all (λ f. count_by (is_equivalent_field f) (drop from a) == count_by (is_equivalent_field f) (drop from b)) (drop (from + 1) a) → length a ≤ at → true ≡ matches is_equivalent_field (drop from a) (drop from b)
all_told a b from at x l high is here there past =
    tell_from x (drop (from + 1) a) (drop from a) (drop from b) (opens a from x high is) (omega (arith, length-drop from a, length-drop from b)) ((Decides-eqb _ _).0 here)
    (sym there ∙ ap (list_all (λ f. count_by (is_equivalent_field f) (drop from a) == count_by (is_equivalent_field f) (drop from b))) (drop_all at a past))
