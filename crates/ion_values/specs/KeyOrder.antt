-- The laws of the equality and the order of keys: equal keys are one, and the order is that of their kinds, and then
-- of their parts.
use Rattle.std.proofs.Common.{◌≡◌, ℕ, ℤ, pos, Bool, true, false, List, [], refl, sym, ap, subst, ◌∙◌, if◌then◌else◌}
use Rattle.std.specs.Cmp.{IsEquivalence, IsTotalOrder}
use Rattle.std.specs.Cmp.Lexicographic.{slice_cmp}
use Rattle.std.specs.Ordering.{int_cmp, int_eq, is_eq, nat_cmp, on, ordering_then, then_cmp}
use Rattle.std.specs.Str.{bytes_eq}
use Rattle.std.specs.declared.cmp.Ordering.{Ordering}
use Rattle.std.specs.declared.cmp.Ordering.TheVariants.{Less, Equal, Greater}
use Rattle.std.proofs.lemmas.Bool.{and_from, and_parts, false≢true}
use Rattle.std.proofs.lemmas.Bool.Decides.{Decides-int_eq}
use Rattle.std.proofs.lemmas.Cmp.{int_cmp_total, int_ranked, nat_cmp_total, nat_list_cmp_total, on_total, tied_itself, then_total}
use Rattle.std.proofs.lemmas.Map.Text.{is_eq-slice_cmp}
use Rattle.std.proofs.lemmas.Slice.Eq.{bytes_eq-Decides}
use Rattle.ion_values.specs.declared.value.Key.{Key}
use Rattle.ion_values.specs.declared.value.Key.TheVariants as key
use Rattle.ion_values.specs.Keys.{is_same_key, kind_of, compare_keys, EqualKeysAreOne, KeysAreOrdered}

-- ---- the order by kinds and parts

-- a truth value as a number, a coefficient or a moment
abbrev amount_of : Key → ℤ
amount_of (key.Bool b) = if b then pos 1 else pos 0
amount_of (key.Number c e) = c
amount_of (key.Moment n) = n
amount_of _ = pos 0

abbrev exponent_of : Key → ℤ
exponent_of (key.Number c e) = e
exponent_of _ = pos 0

abbrev bytes_of : Key → List ℕ
bytes_of (key.Text text) = text
bytes_of (key.Clob bytes) = bytes
bytes_of (key.Blob bytes) = bytes
bytes_of _ = []

abbrev by_parts : Key → Key → Ordering
by_parts =
    then_cmp (on kind_of nat_cmp) (then_cmp (on amount_of int_cmp)
    (then_cmp (on exponent_of int_cmp) (on bytes_of (slice_cmp nat_cmp))))

parts_ordered : IsTotalOrder by_parts
parts_ordered =
    then_total (on_total kind_of nat_cmp_total)
    (then_total (on_total amount_of int_cmp_total)
    (then_total (on_total exponent_of int_cmp_total) (on_total bytes_of nat_list_cmp_total)))

then_tie : (o : Ordering) → o ≡ ordering_then o Equal
then_tie Less = refl
then_tie Equal = refl
then_tie Greater = refl

same_order : (a b : Key) → compare_keys a b ≡ by_parts a b
same_order (key.Bool true) (key.Bool true) = refl
same_order (key.Bool true) (key.Bool false) = refl
same_order (key.Bool false) (key.Bool true) = refl
same_order (key.Bool false) (key.Bool false) = refl
same_order (key.Number c e) (key.Number d f) = ap (ordering_then (int_cmp c d)) (then_tie (int_cmp e f))
same_order (key.Text a) (key.Text b) = refl
same_order (key.Moment a) (key.Moment b) = then_tie (int_cmp a b)
same_order (key.Clob a) (key.Clob b) = refl
same_order (key.Blob a) (key.Blob b) = refl
same_order _ _ = refl

pub keys_total : IsTotalOrder compare_keys
keys_total = subst IsTotalOrder (λ i a b. sym (same_order a b) i) parts_ordered

-- ---- equal keys are one

bytes_one : (a b : List ℕ) → bytes_eq a b ≡ true → a ≡ b
bytes_one a b = (bytes_eq-Decides a b).0

int_one : (a b : ℤ) → int_eq a b ≡ true → a ≡ b
int_one a b = (Decides-int_eq a b).0

number_one : (c d e f : ℤ) → c ≡ d → e ≡ f → key.Number c e ≡ key.Number d f
number_one c d e f h k = λ i. key.Number (h i) (k i)

is_one : (a b : Key) → is_same_key a b ≡ true → a ≡ b
is_one (key.Bool true) (key.Bool true) h = refl
is_one (key.Bool true) (key.Bool false) h = absurd (false≢true h)
is_one (key.Bool false) (key.Bool true) h = absurd (false≢true h)
is_one (key.Bool false) (key.Bool false) h = refl
is_one (key.Number c e) (key.Number d f) h =
    let both = and_parts (int_eq c d) (int_eq e f) h in number_one c d e f (int_one c d both.0) (int_one e f both.1)
is_one (key.Text a) (key.Text b) h = ap key.Text (bytes_one a b h)
is_one (key.Moment a) (key.Moment b) h = ap key.Moment (int_one a b h)
is_one (key.Clob a) (key.Clob b) h = ap key.Clob (bytes_one a b h)
is_one (key.Blob a) (key.Blob b) h = ap key.Blob (bytes_one a b h)
is_one _ _ h = absurd (false≢true h)

itself : (a : Key) → is_same_key a a ≡ true
itself (key.Bool true) = refl
itself (key.Bool false) = refl
itself (key.Number c e) = and_from _ _ ((Decides-int_eq c c).1 refl) ((Decides-int_eq e e).1 refl)
itself (key.Text a) = (bytes_eq-Decides a a).1 refl
itself (key.Moment a) = (Decides-int_eq a a).1 refl
itself (key.Clob a) = (bytes_eq-Decides a a).1 refl
itself (key.Blob a) = (bytes_eq-Decides a a).1 refl

pub equal_keys_are_one : EqualKeysAreOne
equal_keys_are_one a b = (is_one a b, λ same. ap (is_same_key a) (sym same) ∙ itself a)

-- ---- keys that tie are one

first_tie : (o p : Ordering) → ordering_then o p ≡ Equal → (o ≡ Equal) × (p ≡ Equal)
first_tie Equal p h = (refl, h)
first_tie Less p h = absurd (false≢true (ap is_eq h))
first_tie Greater p h = absurd (false≢true (ap is_eq h))

int_tie : (a b : ℤ) → int_cmp a b ≡ Equal → a ≡ b
int_tie a b h = int_ranked a b Equal (sym h)

bytes_tie : (a b : List ℕ) → slice_cmp nat_cmp a b ≡ Equal → a ≡ b
bytes_tie a b h = bytes_one a b (sym (is_eq-slice_cmp a b) ∙ ap is_eq h)

tie_is_one : (a b : Key) → compare_keys a b ≡ Equal → a ≡ b
tie_is_one (key.Bool true) (key.Bool true) h = refl
tie_is_one (key.Bool true) (key.Bool false) h = absurd (false≢true (ap is_eq h))
tie_is_one (key.Bool false) (key.Bool true) h = absurd (false≢true (ap is_eq h))
tie_is_one (key.Bool false) (key.Bool false) h = refl
tie_is_one (key.Number c e) (key.Number d f) h =
    let both = first_tie (int_cmp c d) (int_cmp e f) h in number_one c d e f (int_tie c d both.0) (int_tie e f both.1)
tie_is_one (key.Text a) (key.Text b) h = ap key.Text (bytes_tie a b h)
tie_is_one (key.Moment a) (key.Moment b) h = ap key.Moment (int_tie a b h)
tie_is_one (key.Clob a) (key.Clob b) h = ap key.Clob (bytes_tie a b h)
tie_is_one (key.Blob a) (key.Blob b) h = ap key.Blob (bytes_tie a b h)
tie_is_one _ _ h = absurd (false≢true (ap is_eq h))

pub keys_are_ordered : KeysAreOrdered
keys_are_ordered =
    (keys_total, λ a b. (tie_is_one a b, λ same. ap (compare_keys a) (sym same) ∙ tied_itself keys_total a))

-- ---- for `==` and `cmp`

pub same_key_equiv : IsEquivalence is_same_key
same_key_equiv = record {
  refl = itself;
  symm = λ a b. flipped a b (is_same_key a b) (is_same_key b a) refl refl;
  congr = λ a b c h. ap (λ (k : Key). is_same_key k c) (is_one a b h);
}
  where
    flipped : (a b : Key) (x y : Bool) → is_same_key a b ≡ x → is_same_key b a ≡ y → is_same_key a b ≡ is_same_key b a
    flipped a b true true h k = h ∙ sym k
    flipped a b false false h k = h ∙ sym k
    flipped a b true false h k =
        ap (λ (c : Key). is_same_key a c) (sym (is_one a b h)) ∙ ap (λ (c : Key). is_same_key c a) (is_one a b h)
    flipped a b false true h k =
        ap (λ (c : Key). is_same_key a c) (is_one b a k) ∙ ap (λ (c : Key). is_same_key c a) (sym (is_one b a k))

-- `==` holds exactly where `cmp` answers Equal
pub ties_are_same : (a b : Key) → is_same_key a b ≡ is_eq (compare_keys a b)
ties_are_same a b = by (is_same_key a b) (compare_keys a b) refl refl
  where
    by : (x : Bool) (o : Ordering) → is_same_key a b ≡ x → compare_keys a b ≡ o →
        is_same_key a b ≡ is_eq (compare_keys a b)
    by true o h k = h ∙ sym (ap is_eq ((keys_are_ordered.1 a b).1 (is_one a b h)))
    by false Less h k = h ∙ sym (ap is_eq k)
    by false Equal h k = (equal_keys_are_one a b).1 (tie_is_one a b k) ∙ sym (ap is_eq k)
    by false Greater h k = h ∙ sym (ap is_eq k)
