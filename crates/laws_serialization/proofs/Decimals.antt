-- Decimals and offsets are determined by their bytes.
use Rattle.std.proofs.Common.{◌≡◌, ◌∙◌, ℕ, ℤ, pos, negsuc, suc, ◌==◌, ◌&&◌, ◌||◌, not, Bool, true, false, if◌then◌else◌, List, [], ◌++◌, refl, sym, ap, arith, true≢false}
use Rattle.std.specs.Prelude.{unsigned_abs, IsTrue}
use Rattle.std.specs.declared.option.Option.TheVariants.{None, Some}
use Rattle.std.proofs.lemmas.Bool.Decides.{Decides-eqb}
use Rattle.ion_values.specs.Decimal.{DecimalParts}
use Rattle.ion_values.specs.Within.{decimal_within, exponent_within, int_within, is_zero}
use Rattle.laws_serialization.specs.Numbers.{DecimalIsInjective, OffsetIsPrefixFree}
use Rattle.hash_model.specs.Numbers.{int_field, is_below_zero, var_int}
use Rattle.hash_model.specs.Serialize.{is_negative_decimal}
use Rattle.laws_serialization.proofs.Numbers.{int_field_is_injective, some_byte, var_int_is_prefix_free}

-- a number is determined by its sign and its magnitude
pub int_parts : (a b : ℤ) → is_below_zero a ≡ is_below_zero b → unsigned_abs a ≡ unsigned_abs b → a ≡ b
int_parts (pos m) (pos n) s e = ap pos e
int_parts (negsuc m) (negsuc n) s e = let same : m ≡ n = omega (arith, e) in ap negsuc same
int_parts (pos m) (negsuc n) s e = absurd (true≢false (sym s))
int_parts (negsuc m) (pos n) s e = absurd (true≢false s)

-- ---- offsets

-- no number is a negative zero
no_number : (m : ℤ) → true ≡ is_below_zero m → 0 ≡ unsigned_abs m → ⊥
no_number (pos m) h e = true≢false h
no_number (negsuc m) h e = absurd (omega (arith, e))

pub offset_is_prefix_free : OffsetIsPrefixFree
offset_is_prefix_free None None r s e = (refl, (var_int_is_prefix_free true true 0 0 r s e).2)
offset_is_prefix_free (Some a) (Some b) r s e =
    let h = var_int_is_prefix_free (is_below_zero a) (is_below_zero b) (unsigned_abs a) (unsigned_abs b) r s e in (ap Some (int_parts a b h.0 h.1), h.2)
offset_is_prefix_free None (Some b) r s e =
    let h = var_int_is_prefix_free true (is_below_zero b) 0 (unsigned_abs b) r s e in absurd (no_number b h.0 h.1)
offset_is_prefix_free (Some a) None r s e =
    let h = var_int_is_prefix_free (is_below_zero a) true (unsigned_abs a) 0 r s e in absurd (no_number a (sym h.0) (sym h.1))

-- ---- decimals

abs_zero : (n : ℤ) → (unsigned_abs n == 0) ≡ true → n ≡ pos 0
abs_zero (pos n) h = ap pos ((Decides-eqb n 0).0 h)
abs_zero (negsuc n) h = let bad : suc n ≡ 0 = (Decides-eqb (suc n) 0).0 h in absurd (omega arith)

three : (p q r : Bool) → (p && q && not r) ≡ true → (p ≡ true) × (q ≡ true) × (r ≡ false)
three true true false h = (refl, refl, refl)
three true true true h = absurd (cc)
three true false r h = absurd (cc)
three false q r h = absurd (cc)

third : (p q r : Bool) → IsTrue (p && q && r) → r ≡ true
third true true true h = refl
third true true false h = let bad : ⊥ = cc in absurd bad
third true false r h = let bad : ⊥ = cc in absurd bad
third false q r h = let bad : ⊥ = cc in absurd bad

is_zero-zero : (n : ℤ) → is_zero n ≡ true → n ≡ pos 0
is_zero-zero (pos n) h = ap pos ((Decides-eqb n 0).0 h)
is_zero-zero (negsuc n) h = absurd (true≢false (sym h))

-- a negative zero is a zero
zero_of : (d : DecimalParts) → IsTrue (decimal_within d) → d.negative_zero ≡ true → d.coefficient ≡ pos 0
zero_of d within h =
    is_zero-zero d.coefficient (ap (λ n. if n then is_zero d.coefficient else true) (sym h) ∙ third (int_within d.coefficient) (exponent_within d.exponent) (if d.negative_zero then is_zero d.coefficient else true) within)

sign_parts : (p q : Bool) (m n : ℤ) → (p ≡ true → m ≡ pos 0) → (q ≡ true → n ≡ pos 0)
    → (p || is_below_zero m) ≡ (q || is_below_zero n) → unsigned_abs m ≡ unsigned_abs n → (m ≡ n) × (p ≡ q)
sign_parts true true m n hm hn s e = (hm refl ∙ sym (hn refl), refl)
sign_parts false false m n hm hn s e = (int_parts m n s e, refl)
sign_parts true false m n hm hn s e = absurd (no_number n s (sym (ap unsigned_abs (hm refl)) ∙ e))
sign_parts false true m n hm hn s e = absurd (no_number m (sym s) (sym (ap unsigned_abs (hn refl)) ∙ sym e))

same_parts : (a b : DecimalParts) → a.coefficient ≡ b.coefficient → a.exponent ≡ b.exponent → a.negative_zero ≡ b.negative_zero → a ≡ b
same_parts a b c e n = λ i. record { coefficient = c i; exponent = e i; negative_zero = n i }

abbrev is_bare : DecimalParts → Bool
is_bare d = (unsigned_abs d.exponent == 0) && (unsigned_abs d.coefficient == 0) && not d.negative_zero

abbrev numbers : DecimalParts → List ℕ
numbers d = var_int (is_below_zero d.exponent) (unsigned_abs d.exponent) ++ int_field (is_negative_decimal d) (unsigned_abs d.coefficient)

by_bare : (a b : DecimalParts) → IsTrue (decimal_within a) → IsTrue (decimal_within b) → (p q : Bool) → is_bare a ≡ p → is_bare b ≡ q
    → (if p then [] else numbers a) ≡ (if q then [] else numbers b) → a ≡ b
by_bare a b ha hb true true h k e =
    let x = three (unsigned_abs a.exponent == 0) (unsigned_abs a.coefficient == 0) a.negative_zero h in
    let y = three (unsigned_abs b.exponent == 0) (unsigned_abs b.coefficient == 0) b.negative_zero k in
    same_parts a b (abs_zero a.coefficient x.1 ∙ sym (abs_zero b.coefficient y.1)) (abs_zero a.exponent x.0 ∙ sym (abs_zero b.exponent y.0)) (x.2 ∙ sym y.2)
by_bare a b ha hb true false h k e =
    absurd (some_byte (is_below_zero b.exponent) (unsigned_abs b.exponent) (int_field (is_negative_decimal b) (unsigned_abs b.coefficient)) (sym e))
by_bare a b ha hb false true h k e =
    absurd (some_byte (is_below_zero a.exponent) (unsigned_abs a.exponent) (int_field (is_negative_decimal a) (unsigned_abs a.coefficient)) e)
by_bare a b ha hb false false h k e =
    let x = var_int_is_prefix_free (is_below_zero a.exponent) (is_below_zero b.exponent) (unsigned_abs a.exponent) (unsigned_abs b.exponent) (int_field (is_negative_decimal a) (unsigned_abs a.coefficient)) (int_field (is_negative_decimal b) (unsigned_abs b.coefficient)) e in
    let y = int_field_is_injective (is_negative_decimal a) (is_negative_decimal b) (unsigned_abs a.coefficient) (unsigned_abs b.coefficient) x.2 in
    let z = sign_parts a.negative_zero b.negative_zero a.coefficient b.coefficient (zero_of a ha) (zero_of b hb) y.0 y.1 in
    same_parts a b z.0 (int_parts a.exponent b.exponent x.0 x.1) z.1

pub decimal_is_injective : DecimalIsInjective
decimal_is_injective a b ha hb e = by_bare a b ha hb (is_bare a) (is_bare b) refl refl e
