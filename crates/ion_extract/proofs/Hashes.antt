-- Hashes of 32 bytes, joined, determine the hashes.
use Rattle.std.proofs.Common.{◌≡◌, ◌∙◌, ℕ, List, [], ◌∷◌, ◌++◌, map, length, refl, sym, ap, arith, rules, length-append}
use Rattle.std.specs.List.{All, AllByRecursion}
use Rattle.std.proofs.lemmas.List.Concat.{flat_map-cons}
use Rattle.std.proofs.lemmas.List.Elements.{All-from_recursion, All-head, All-tail}
use Rattle.sha2.specs.Sha256.{sha256}
use Rattle.sha2.proofs.Facts256.{length-sha256}
use Rattle.ion_values.specs.declared.value.Field.{Field}
use Rattle.ion_values.specs.declared.value.Body.TheFolds.{the_lemmas}
use Rattle.hash_model.specs.Serialize.{field_digest, field_hash, in_order, joined, serialize, symbol_bytes}
use Rattle.ion_hash.proofs.Order.{put_all}
use Rattle.ion_extract.specs.Laws.{JoinedHashesAreInjective}

head_of : List ℕ → ℕ
head_of [] = 0
head_of (x ∷ xs) = x

tail_of : List ℕ → List ℕ
tail_of [] = []
tail_of (x ∷ xs) = xs

-- beginnings of one length are determined
pub split : (xs ys us vs : List ℕ) → length xs ≡ length us → xs ++ ys ≡ us ++ vs → (xs ≡ us) × (ys ≡ vs)
unfolding head_of tail_of
split [] ys [] vs l e = (refl, e)
split [] ys (u ∷ us) vs l e = absurd (omega arith)
split (x ∷ xs) ys [] vs l e = absurd (omega arith)
split (x ∷ xs) ys (u ∷ us) vs l e =
    let h : x ≡ u = ap head_of e in
    let rest = split xs ys us vs (omega arith) (ap tail_of e) in
    ((λ i. h i ∷ rest.0 i), rest.1)

joined-cons : (x : List ℕ) (xs : List (List ℕ)) → joined (x ∷ xs) ≡ x ++ joined xs
joined-cons x xs = flat_map-cons (λ piece. piece) x xs

none_left : (y rest : List ℕ) → length y ≡ 32 → [] ≡ y ++ rest → ⊥
none_left y rest l e = let h : 0 ≡ length (y ++ rest) = ap length e in omega (arith, h, length-append y rest)

pub joined_hashes_are_injective : JoinedHashesAreInjective
joined_hashes_are_injective [] [] hx hy e = refl
joined_hashes_are_injective [] (y ∷ ys) hx hy e = absurd (none_left y (joined ys) (All-head (λ y. length y ≡ 32) y ys hy) (e ∙ joined-cons y ys))
joined_hashes_are_injective (x ∷ xs) [] hx hy e = absurd (none_left x (joined xs) (All-head (λ y. length y ≡ 32) x xs hx) (sym e ∙ joined-cons x xs))
joined_hashes_are_injective (x ∷ xs) (y ∷ ys) hx hy e =
    let long = λ (z : List ℕ). length z ≡ 32 in
    let both = split x (joined xs) y (joined ys) (All-head long x xs hx ∙ sym (All-head long y ys hy)) (sym (joined-cons x xs) ∙ e ∙ joined-cons y ys) in
    let rest = joined_hashes_are_injective xs ys (All-tail long x xs hx) (All-tail long y ys hy) both.1 in
    λ i. both.0 i ∷ rest i

-- ---- hashes of fields

pub field_is : (f : Field) → field_hash f ≡ sha256 (symbol_bytes f.name ++ serialize f.value)
unfolding field_digest
field_is f = search (rules, the_lemmas)

abbrev Long : List ℕ → Type 0
Long hash = length hash ≡ 32

all_long : (fs : List Field) → AllByRecursion Long (map field_hash fs)
all_long [] = tt
all_long (f ∷ fs) = (ap length (field_is f) ∙ length-sha256 (symbol_bytes f.name ++ serialize f.value), all_long fs)

in_order_long : (hashes : List (List ℕ)) → AllByRecursion Long hashes → AllByRecursion Long (in_order hashes)
unfolding in_order
in_order_long [] all = tt
in_order_long (hash ∷ hashes) all = put_all Long hash all.0 (in_order hashes) (in_order_long hashes all.1)

long_in_order : (fs : List Field) → All Long (in_order (map field_hash fs))
long_in_order fs = All-from_recursion Long (in_order (map field_hash fs)) (in_order_long (map field_hash fs) (all_long fs))

pub hashes_told : (fs gs : List Field) → joined (in_order (map field_hash fs)) ≡ joined (in_order (map field_hash gs))
    → in_order (map field_hash fs) ≡ in_order (map field_hash gs)
hashes_told fs gs e = joined_hashes_are_injective (in_order (map field_hash fs)) (in_order (map field_hash gs)) (long_in_order fs) (long_in_order gs) e
