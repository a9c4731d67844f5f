-- Scalars of all kinds: comparisons and keys.
use Rattle.std.proofs.Common.{◌≡◌, ◌∙◌, ◌↔◌, ℕ, ℤ, List, Bool, true, false, refl, sym, ap, arith, int_cmp, true≢false}
use Rattle.std.specs.Prelude.{option_map}
use Rattle.std.specs.declared.option.Option.{Option}
use Rattle.std.specs.declared.option.Option.TheVariants.{None, Some}
use Rattle.std.specs.declared.cmp.Ordering.{Ordering}
use Rattle.std.specs.declared.cmp.Ordering.TheVariants.{Less, Equal, Greater}
use Rattle.std.specs.Ordering.{bool_cmp, is_eq, is_some_and, ordering_reverse}
use Rattle.std.specs.Bool.{Decides}
use Rattle.std.specs.Cmp.{IsPartialOrder, IsTotalOrder, bool_cmp_total}
use Rattle.std.specs.Cmp.Lexicographic.{bytes_decides, texts_ties}
use Rattle.std.proofs.lemmas.Cmp.{int_cmp_total, nat_list_cmp_total, tied_itself}
use Rattle.std.proofs.lemmas.Bool.Decides.{Decides-int_eq}
use Rattle.ion_values.specs.Decimal.{DecimalParts}
use Rattle.ion_values.specs.declared.value.Value.{Value}
use Rattle.ion_values.specs.declared.value.Key.{Key}
use Rattle.ion_values.specs.declared.value.Key.TheVariants as key
use Rattle.ion_order.specs.Compare.{Scalar, truth, number, moment, text, clob, blob, compare_bytes, compare_found, compare_numbers, compare_of, compare_scalars, scalar_of}
use Rattle.ion_order.specs.Key.{key_of, key_of_number, key_of_scalar}
use Rattle.ion_order.specs.Laws.{KeysTellEqual, SameKey, ValuesAreOrdered}
use Rattle.ion_order.proofs.ByValue.{numbers_total}
use Rattle.ion_order.proofs.KeyOf.{Keyed, equal_keys, keyed}

-- kinds of scalars, numbered
scalar_index : Scalar → ℕ
scalar_index (truth a) = 0
scalar_index (number a) = 1
scalar_index (moment a) = 2
scalar_index (text a) = 3
scalar_index (clob a) = 4
scalar_index (blob a) = 5

key_index : Key → ℕ
key_index (key.Bool a) = 0
key_index (key.Number a b) = 1
key_index (key.Moment a) = 2
key_index (key.Text a) = 3
key_index (key.Clob a) = 4
key_index (key.Blob a) = 5

same_index : (a : Scalar) → key_index (key_of_scalar a) ≡ scalar_index a
unfolding scalar_index key_index
same_index (truth a) = refl
same_index (number a) = let k = keyed a in ap key_index k.key_is
same_index (moment a) = refl
same_index (text a) = refl
same_index (clob a) = refl
same_index (blob a) = refl

truths_are : (a b : Bool) → (Some (bool_cmp a b) ≡ Some Equal) ↔ (key.Bool a ≡ key.Bool b)
truths_are true true = (λ h. refl, λ h. refl)
truths_are false false = (λ h. refl, λ h. refl)
truths_are true false = (λ h. cc h, λ h. cc h)
truths_are false true = (λ h. cc h, λ h. cc h)

inside : (o : Ordering) → Some o ≡ Some Equal → o ≡ Equal
inside o h = cc h

moments_are : (a b : ℤ) → (Some (int_cmp a b) ≡ Some Equal) ↔ (key.Moment a ≡ key.Moment b)
moments_are a b = (
  λ h. ap key.Moment ((Decides-int_eq a b).0 (ap is_eq (inside (int_cmp a b) h))),
  λ h. let same : a ≡ b = cc h in ap (λ n. Some (int_cmp n b)) same ∙ ap Some (tied_itself int_cmp_total b),
)

bytes_are : (a b : List ℕ) → compare_bytes a b ≡ Equal → a ≡ b
bytes_are a b h = (bytes_decides a b).0 (texts_ties a b ∙ ap is_eq h)

bytes_are_equal : (a b : List ℕ) → a ≡ b → Some (compare_bytes a b) ≡ Some Equal
bytes_are_equal a b e = ap (λ n. Some (compare_bytes n b)) e ∙ ap Some (tied_itself nat_list_cmp_total b)

pub scalars_are : (a b : Scalar) → (compare_scalars a b ≡ Some Equal) ↔ (key_of_scalar a ≡ key_of_scalar b)
unfolding scalar_index
scalars_are (truth a) (truth b) = truths_are a b
scalars_are (number a) (number b) = (λ h. (equal_keys a b).0 (inside (compare_numbers a b) h), λ e. ap Some ((equal_keys a b).1 e))
scalars_are (moment a) (moment b) = moments_are a b
scalars_are (text a) (text b) = (λ h. ap key.Text (bytes_are a b (inside (compare_bytes a b) h)), λ e. let same : a ≡ b = cc e in bytes_are_equal a b same)
scalars_are (clob a) (clob b) = (λ h. ap key.Clob (bytes_are a b (inside (compare_bytes a b) h)), λ e. let same : a ≡ b = cc e in bytes_are_equal a b same)
scalars_are (blob a) (blob b) = (λ h. ap key.Blob (bytes_are a b (inside (compare_bytes a b) h)), λ e. let same : a ≡ b = cc e in bytes_are_equal a b same)
scalars_are a b = (λ h. cc h, λ e. let same : scalar_index a ≡ scalar_index b = sym (same_index a) ∙ ap key_index e ∙ same_index b in absurd (omega arith))

abbrev OneKey : Option Scalar → Option Scalar → Type 0
OneKey s t = (k : Key) × (option_map key_of_scalar s ≡ Some k) × (option_map key_of_scalar t ≡ Some k)

found_are : (s t : Option Scalar) → (compare_found s t ≡ Some Equal) ↔ OneKey s t
found_are (Some a) (Some b) = (
  λ h. (key_of_scalar b, ap Some ((scalars_are a b).0 h), refl),
  λ e. let same : key_of_scalar a ≡ key_of_scalar b = cc (e.1, e.2) in (scalars_are a b).1 same,
)
found_are None t = (λ h. cc h, λ e. cc e.1)
found_are (Some a) None = (λ h. cc h, λ e. cc e.2)

pub keys_tell_equal : KeysTellEqual
keys_tell_equal v w = found_are (scalar_of v) (scalar_of w)

-- one order for each kind of scalars
same_less : (o : Ordering) → Some o ≡ Some Less → o ≡ Less
same_less o h = cc h

turned_round : (a b : Scalar) → compare_scalars a b ≡ option_map ordering_reverse (compare_scalars b a)
turned_round (truth a) (truth b) = ap Some (bool_cmp_total.antisymm a b)
turned_round (number a) (number b) = ap Some (numbers_total.antisymm a b)
turned_round (moment a) (moment b) = ap Some (int_cmp_total.antisymm a b)
turned_round (text a) (text b) = ap Some (nat_list_cmp_total.antisymm a b)
turned_round (clob a) (clob b) = ap Some (nat_list_cmp_total.antisymm a b)
turned_round (blob a) (blob b) = ap Some (nat_list_cmp_total.antisymm a b)
turned_round a b = refl

chained : (a b c : Scalar) → compare_scalars a b ≡ Some Less → compare_scalars b c ≡ Some Less → compare_scalars a c ≡ Some Less
chained (truth a) (truth b) (truth c) h k = ap Some (bool_cmp_total.trans a b c (same_less _ h) (same_less _ k))
chained (number a) (number b) (number c) h k = ap Some (numbers_total.trans a b c (same_less _ h) (same_less _ k))
chained (moment a) (moment b) (moment c) h k = ap Some (int_cmp_total.trans a b c (same_less _ h) (same_less _ k))
chained (text a) (text b) (text c) h k = ap Some (nat_list_cmp_total.trans a b c (same_less _ h) (same_less _ k))
chained (clob a) (clob b) (clob c) h k = ap Some (nat_list_cmp_total.trans a b c (same_less _ h) (same_less _ k))
chained (blob a) (blob b) (blob c) h k = ap Some (nat_list_cmp_total.trans a b c (same_less _ h) (same_less _ k))
chained a b c h k = cc

alike : (a b c : Scalar) → compare_scalars a b ≡ Some Equal → compare_scalars a c ≡ compare_scalars b c
alike (truth a) (truth b) (truth c) h = ap Some (bool_cmp_total.congr a b c (inside _ h))
alike (number a) (number b) (number c) h = ap Some (numbers_total.congr a b c (inside _ h))
alike (moment a) (moment b) (moment c) h = ap Some (int_cmp_total.congr a b c (inside _ h))
alike (text a) (text b) (text c) h = ap Some (nat_list_cmp_total.congr a b c (inside _ h))
alike (clob a) (clob b) (clob c) h = ap Some (nat_list_cmp_total.congr a b c (inside _ h))
alike (blob a) (blob b) (blob c) h = ap Some (nat_list_cmp_total.congr a b c (inside _ h))
alike a b c h = cc

found_turned : (s t : Option Scalar) → compare_found s t ≡ option_map ordering_reverse (compare_found t s)
found_turned (Some a) (Some b) = turned_round a b
found_turned None None = refl
found_turned None (Some b) = refl
found_turned (Some a) None = refl

found_chained : (s t u : Option Scalar) → compare_found s t ≡ Some Less → compare_found t u ≡ Some Less → compare_found s u ≡ Some Less
found_chained (Some a) (Some b) (Some c) h k = chained a b c h k
found_chained s t u h k = cc

found_alike : (s t u : Option Scalar) → compare_found s t ≡ Some Equal → compare_found s u ≡ compare_found t u
found_alike (Some a) (Some b) (Some c) h = alike a b c h
found_alike s t u h = cc

is_equal : (o : Option Ordering) → Decides (is_some_and is_eq o) (o ≡ Some Equal)
is_equal None = (λ h. absurd (true≢false (sym h)), λ h. cc h)
is_equal (Some Less) = (λ h. absurd (true≢false (sym h)), λ h. cc h)
is_equal (Some Equal) = (λ h. refl, λ h. refl)
is_equal (Some Greater) = (λ h. absurd (true≢false (sym h)), λ h. cc h)

pub values_are_ordered : ValuesAreOrdered
values_are_ordered = record {
  antisymm = λ v w. found_turned (scalar_of v) (scalar_of w);
  trans = λ v w x. found_chained (scalar_of v) (scalar_of w) (scalar_of x);
  matches_eq = λ v w. is_equal (compare_of v w);
  congr = λ v w x h. found_alike (scalar_of v) (scalar_of w) (scalar_of x) ((is_equal (compare_of v w)).0 h);
}
