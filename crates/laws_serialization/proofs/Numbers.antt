-- Numbers are determined by their bytes: magnitudes, Ints, VarUInts and VarInts.
use Rattle.std.proofs.Common.{◌≡◌, ◌∙◌, ◌≢◌, ℕ, ◌+◌, ◌<◌, ◌≤◌, ◌==◌, ◌&&◌, not, Bool, true, false, if◌then◌else◌, List, [], ◌∷◌, ◌++◌, refl, sym, ap, subst, arith}
use Rattle.std.specs.List.{All}
use Rattle.std.proofs.lemmas.List.Elements.{All-head, All-tail}
use Rattle.std.proofs.lemmas.Bool.Decides.{Decides-eqb, nat_tests}
use Rattle.hash_model.specs.Numbers.{digits_of, ended, var_int, var_uint}
use Rattle.hash_model.specs.Laws.{TellNumber}
use Rattle.laws_serialization.specs.Numbers.{MagnitudeIsInjective, IntFieldIsInjective, VarUIntIsPrefixFree, VarIntIsPrefixFree}
use Rattle.hash_model.proofs.Digits.{digits_tell_numbers}

same_number : (base limit mark m n : ℕ) (digits : List ℕ) → TellNumber base limit mark m digits → TellNumber base limit mark n digits → m ≡ n
same_number base limit mark m n [] h k = absurd h
same_number base limit mark m n (first ∷ rest) h k = sym h.1 ∙ k.1

-- digits with one mark determine the number
pub digits_tell : (base limit mark m n : ℕ) → 1 < base → 0 < limit → limit ≤ base
    → digits_of base limit mark m ≡ digits_of base limit mark n → m ≡ n
digits_tell base limit mark m n one some within e =
    same_number base limit mark m n (digits_of base limit mark n)
    (subst (TellNumber base limit mark m) e (digits_tell_numbers base limit mark m one some within))
    (digits_tell_numbers base limit mark n one some within)

no_digits : (base limit mark n : ℕ) → 1 < base → 0 < limit → limit ≤ base → digits_of base limit mark n ≢ []
no_digits base limit mark n one some within e = subst (TellNumber base limit mark n) e (digits_tell_numbers base limit mark n one some within)

by_zero : (m n : ℕ) (p q : Bool) → (m == 0) ≡ p → (n == 0) ≡ q
    → (if p then [] else digits_of 256 256 0 m) ≡ (if q then [] else digits_of 256 256 0 n) → m ≡ n
by_zero m n true true a b e = grind (arith, nat_tests)
by_zero m n true false a b e = absurd (no_digits 256 256 0 n (omega arith) (omega arith) (omega arith) (sym e))
by_zero m n false true a b e = absurd (no_digits 256 256 0 m (omega arith) (omega arith) (omega arith) e)
by_zero m n false false a b e = digits_tell 256 256 0 m n (omega arith) (omega arith) (omega arith) e

pub magnitude_is_injective : MagnitudeIsInjective
magnitude_is_injective m n e = by_zero m n (m == 0) (n == 0) refl refl e

-- ---- the sign of an Int

-- digits whose first is below its limit determine which mark was added
same_mark : (base half : ℕ) (a b : Bool) (m n : ℕ) (digits : List ℕ) → TellNumber base half (if a then half else 0) m digits
    → TellNumber base half (if b then half else 0) n digits → (a ≡ b) × (m ≡ n)
same_mark base half a b m n [] h k = absurd h
same_mark base half true true m n (first ∷ rest) h k = (refl, sym h.1 ∙ k.1)
same_mark base half false false m n (first ∷ rest) h k = (refl, sym h.1 ∙ k.1)
same_mark base half true false m n (first ∷ rest) h k = let low = h.0 in let high = k.2 in absurd (omega arith)
same_mark base half false true m n (first ∷ rest) h k = let low = k.0 in let high = h.2 in absurd (omega arith)

signed_told : (a : Bool) (n : ℕ) → TellNumber 256 128 (if a then 128 else 0) n (digits_of 256 128 (if a then 128 else 0) n)
signed_told a n = digits_tell_numbers 256 128 (if a then 128 else 0) n (omega arith) (omega arith) (omega arith)

is_plain_zero : (n : ℕ) (a : Bool) → ((n == 0) && not a) ≡ true → (n ≡ 0) × (a ≡ false)
is_plain_zero n a h = let both = by_parts (n == 0) a h in ((Decides-eqb n 0).0 both.0, both.1)
  where
    by_parts : (p a : Bool) → (p && not a) ≡ true → (p ≡ true) × (a ≡ false)
    by_parts true false h = (refl, refl)
    by_parts true true h = absurd (cc)
    by_parts false a h = absurd (cc)

no_bytes : (a : Bool) (n : ℕ) → digits_of 256 128 (if a then 128 else 0) n ≡ [] → ⊥
no_bytes a n e = subst (TellNumber 256 128 (if a then 128 else 0) n) e (signed_told a n)

by_sign : (a b : Bool) (m n : ℕ) (c d : Bool) → ((m == 0) && not a) ≡ c → ((n == 0) && not b) ≡ d
    → (if c then [] else digits_of 256 128 (if a then 128 else 0) m) ≡ (if d then [] else digits_of 256 128 (if b then 128 else 0) n)
    → (a ≡ b) × (m ≡ n)
by_sign a b m n true true h k e =
    let left = is_plain_zero m a h in
    let right = is_plain_zero n b k in
    (left.1 ∙ sym right.1, left.0 ∙ sym right.0)
by_sign a b m n true false h k e = absurd (no_bytes b n (sym e))
by_sign a b m n false true h k e = absurd (no_bytes a m e)
by_sign a b m n false false h k e =
    same_mark 256 128 a b m n (digits_of 256 128 (if b then 128 else 0) n)
    (subst (TellNumber 256 128 (if a then 128 else 0) m) e (signed_told a m))
    (signed_told b n)

pub int_field_is_injective : IntFieldIsInjective
int_field_is_injective a b m n e = by_sign a b m n ((m == 0) && not a) ((n == 0) && not b) refl refl e

-- ---- groups of 7 bits

top : List ℕ → ℕ
top [] = 0
top (x ∷ xs) = x

rest_of : List ℕ → List ℕ
rest_of [] = []
rest_of (x ∷ xs) = xs

abbrev Low : List ℕ → Type 0
Low xs = All (λ digit. digit < 128) xs

same_ends : (x : ℕ) (xs : List ℕ) (y : ℕ) (ys r s : List ℕ) → x < 128 → Low xs → y < 128 → Low ys
    → ended (x ∷ xs) ++ r ≡ ended (y ∷ ys) ++ s → (x ∷ xs ≡ y ∷ ys) × (r ≡ s)
unfolding ended top rest_of
same_ends x [] y [] r s hx all hy bll e =
    let h : 128 + x ≡ 128 + y = ap top e in
    let same : x ≡ y = omega arith in
    (ap (λ z. z ∷ []) same, ap rest_of e)
same_ends x [] y (w ∷ ys) r s hx all hy bll e = let h : 128 + x ≡ y = ap top e in absurd (omega arith)
same_ends x (z ∷ xs) y [] r s hx all hy bll e = let h : x ≡ 128 + y = ap top e in absurd (omega arith)
same_ends x (z ∷ xs) y (w ∷ ys) r s hx all hy bll e =
    let h : x ≡ y = ap top e in
    let low = λ (digit : ℕ). digit < 128 in
    let rest = same_ends z xs w ys r s (All-head low z xs all) (All-tail low z xs all) (All-head low w ys bll) (All-tail low w ys bll) (ap rest_of e) in
    ((λ i. h i ∷ rest.0 i), rest.1)

ended_digits : (limit p q m n : ℕ) (ds es r s : List ℕ) → p + limit ≤ 128 → q + limit ≤ 128
    → TellNumber 128 limit p m ds → TellNumber 128 limit q n es → ended ds ++ r ≡ ended es ++ s → (ds ≡ es) × (r ≡ s)
ended_digits limit p q m n [] es r s a b h k e = absurd h
ended_digits limit p q m n (x ∷ xs) [] r s a b h k e = absurd k
ended_digits limit p q m n (x ∷ xs) (y ∷ ys) r s a b h k e =
    let hx = h.2 in let ky = k.2 in let h0 = h.0 in let k0 = k.0 in
    same_ends x xs y ys r s (omega arith) h.3 (omega arith) k.3 e

mark_small : (a : Bool) → (if a then 64 else 0) + 64 ≤ 128
mark_small true = omega arith
mark_small false = omega arith

uint_told : (n : ℕ) → TellNumber 128 128 0 n (digits_of 128 128 0 n)
uint_told n = digits_tell_numbers 128 128 0 n (omega arith) (omega arith) (omega arith)

vint_told : (a : Bool) (n : ℕ) → TellNumber 128 64 (if a then 64 else 0) n (digits_of 128 64 (if a then 64 else 0) n)
vint_told a n = digits_tell_numbers 128 64 (if a then 64 else 0) n (omega arith) (omega arith) (omega arith)

pub var_uint_is_prefix_free : VarUIntIsPrefixFree
var_uint_is_prefix_free m n r s e =
    let both = ended_digits 128 0 0 m n (digits_of 128 128 0 m) (digits_of 128 128 0 n) r s (omega arith) (omega arith) (uint_told m) (uint_told n) e in
    (same_number 128 128 0 m n (digits_of 128 128 0 n) (subst (TellNumber 128 128 0 m) both.0 (uint_told m)) (uint_told n), both.1)

pub var_int_is_prefix_free : VarIntIsPrefixFree
var_int_is_prefix_free a b m n r s e =
    let both = ended_digits 64 (if a then 64 else 0) (if b then 64 else 0) m n (digits_of 128 64 (if a then 64 else 0) m) (digits_of 128 64 (if b then 64 else 0) n) r s (mark_small a) (mark_small b) (vint_told a m) (vint_told b n) e in
    let signs = same_mark 128 64 a b m n (digits_of 128 64 (if b then 64 else 0) n) (subst (TellNumber 128 64 (if a then 64 else 0) m) both.0 (vint_told a m)) (vint_told b n) in
    (signs.0, signs.1, both.1)

no_ended : (digits : List ℕ) → ended digits ≡ [] → digits ≡ []
unfolding ended
no_ended [] e = refl
no_ended (x ∷ []) e = absurd (cc)
no_ended (x ∷ y ∷ rest) e = absurd (cc)

none_in_front : (xs ys : List ℕ) → xs ++ ys ≡ [] → xs ≡ []
none_in_front [] ys e = refl
none_in_front (x ∷ xs) ys e = absurd (cc)

-- a VarUInt has a byte
pub some_group : (n : ℕ) (rest : List ℕ) → var_uint n ++ rest ≡ [] → ⊥
some_group n rest e =
    subst (TellNumber 128 128 0 n) (no_ended (digits_of 128 128 0 n) (none_in_front _ rest e)) (uint_told n)

-- a VarInt has a byte
pub some_byte : (a : Bool) (n : ℕ) (rest : List ℕ) → var_int a n ++ rest ≡ [] → ⊥
some_byte a n rest e =
    subst (TellNumber 128 64 (if a then 64 else 0) n) (no_ended (digits_of 128 64 (if a then 64 else 0) n) (none_in_front _ rest e)) (vint_told a n)
