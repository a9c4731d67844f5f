-- The keys of numbers.
use Rattle.std.proofs.Common.{◌≡◌, ◌≢◌, ◌∙◌, ℕ, zero, suc, ◌+◌, ◌*◌, ◌/◌, ◌^◌, ◌<◌, ◌≤◌, ◌==◌, ℤ, pos, negsuc, ◌+ℤ◌, ◌-ℤ◌, ◌*ℤ◌, ◌≤ℤ◌, Bool, true, false, unsigned_abs, int_div, int_cmp, ◌↔◌, refl, sym, ap, subst, arith, lit<, pow-add}
use Rattle.std.proofs.Math.Nat.{zero-div, zero-mul, mul_assoc, mul_comm, mul-div_cancel, mul-pos, mul-div-mul_right, one-le-pow}
use Rattle.std.specs.declared.cmp.Ordering.TheVariants.{Equal}
use Rattle.std.specs.Ordering.{is_eq}
use Rattle.std.proofs.lemmas.Cmp.{int_cmp_total, tied_itself}
use Rattle.std.proofs.lemmas.Int.{ints}
use Rattle.jiff_core.specs.Sign.{signed}
use Rattle.jiff_core.proofs.SignedLemmas.{signed_arith}
use Rattle.std.proofs.lemmas.Bool.Decides.{nat_tests, Decides-int_eq}
use Rattle.ion_values.specs.Decimal.{DecimalParts}
use Rattle.ion_values.specs.Within.{is_zero}
use Rattle.ion_values.specs.declared.value.Key.{Key}
use Rattle.ion_values.specs.declared.value.Key.TheVariants as key
use Rattle.ion_order.specs.Key.{key_of_number, zeros_of}
use Rattle.ion_order.specs.Numbers.{brought, lesser, number}
use Rattle.ion_order.specs.Compare.{compare_numbers}
use Rattle.ion_order.proofs.ByValue.{compare_at, lesser_first, lesser_second, negative_times, times_twice, way}
use Rattle.ion_order.proofs.Zeros.{parted, zeros_of-times}

apart_from_0 : (n : ℕ) → (n ≡ 0 → ⊥) → (n == 0) ≡ false
apart_from_0 n h = grind (arith, nat_tests)

not_zero : (n : ℤ) → n ≢ pos 0 → is_zero n ≡ false
not_zero (pos n) h = apart_from_0 n (λ e. h (ap pos e))
not_zero (negsuc n) h = refl

pub key_of_zero : (d : DecimalParts) → d.coefficient ≡ pos 0 → key_of_number d ≡ key.Number (pos 0) (pos 0)
unfolding key_of_number
key_of_zero d e = rw e refl

pub key_of_other : (d : DecimalParts) → d.coefficient ≢ pos 0
    → key_of_number d ≡ key.Number (int_div d.coefficient (pos (10 ^ zeros_of (unsigned_abs d.coefficient)))) (d.exponent +ℤ pos (zeros_of (unsigned_abs d.coefficient)))
unfolding key_of_number
key_of_other d h = rw (not_zero d.coefficient h) refl

-- a number as a sign and a size
signed_size : (n : ℤ) → (s : Bool) × (m : ℕ) × (n ≡ signed s m)
signed_size (pos n) = (false, n, refl)
signed_size (negsuc n) = (true, suc n, refl)

size_of : (s : Bool) (n : ℕ) → unsigned_abs (signed s n) ≡ n
size_of false n = refl
size_of true zero = refl
size_of true (suc n) = refl

zero_of : (s : Bool) → signed s 0 ≡ pos 0
zero_of false = refl
zero_of true = refl

part_of : (s : Bool) (n p : ℕ) → int_div (signed s n) (pos p) ≡ signed s (n / p)
part_of false n p = refl
part_of true zero p = ap pos (zero-div p) ∙ ap (signed true) (sym (zero-div p))
part_of true (suc n) p = refl

times_of : (s : Bool) (n p : ℕ) → signed s n *ℤ pos p ≡ signed s (n * p)
times_of false n p = refl
times_of true n p = negative_times n p

not_none : (s : Bool) (n : ℕ) → 1 ≤ n → signed s n ≢ pos 0
not_none s n one e = let size : n ≡ 0 = sym (size_of s n) ∙ ap unsigned_abs e in omega arith

-- the key of a number that isn't 0
key_of_signed : (s : Bool) (n : ℕ) (e : ℤ) → 1 ≤ n → key_of_number (number (signed s n) e) ≡ key.Number (signed s (n / 10 ^ zeros_of n)) (e +ℤ pos (zeros_of n))
key_of_signed s n e one =
    key_of_other (number (signed s n) e) (not_none s n one)
    ∙ ap (λ m. key.Number (int_div (signed s n) (pos (10 ^ zeros_of m))) (e +ℤ pos (zeros_of m))) (size_of s n)
    ∙ ap (λ x. key.Number x (e +ℤ pos (zeros_of n))) (part_of s n (10 ^ zeros_of n))

-- zeros put at the end and the exponent lowered: the same key
key_lower : (s : Bool) (n : ℕ) (e : ℤ) (k : ℕ) → 1 ≤ n → key_of_number (number (signed s (n * 10 ^ k)) e) ≡ key_of_number (number (signed s n) (e +ℤ pos k))
key_lower s n e k one =
    let least : 1 ≤ n * 10 ^ k = mul-pos one (one-le-pow k 10 (lit< tt)) in
    let zeros : zeros_of (n * 10 ^ k) ≡ zeros_of n + k = zeros_of-times n k one in
    let part : n * 10 ^ k / 10 ^ (zeros_of n + k) ≡ n / 10 ^ zeros_of n =
    ap (λ p. n * 10 ^ k / p) (pow-add 10 (zeros_of n) k) ∙ mul-div-mul_right n (10 ^ zeros_of n) (one-le-pow k 10 (lit< tt)) in
    let exponent : e +ℤ pos (zeros_of n + k) ≡ e +ℤ pos k +ℤ pos (zeros_of n) = omega (arith, signed_arith) in
    key_of_signed s (n * 10 ^ k) e least
    ∙ ap (λ z. key.Number (signed s (n * 10 ^ k / 10 ^ z)) (e +ℤ pos z)) zeros
    ∙ (λ i. key.Number (signed s (part i)) (exponent i))
    ∙ sym (key_of_signed s n (e +ℤ pos k) one)

key_same : (d : DecimalParts) → key_of_number d ≡ key_of_number (number d.coefficient d.exponent)
unfolding key_of_number
key_same d = refl

-- at an exponent that isn't above its own a number has its own key
pub key_brought : (d : DecimalParts) (m : ℤ) → m ≤ℤ d.exponent → key_of_number (number (brought d m) m) ≡ key_of_number d
unfolding brought
key_brought d m h = by (signed_size d.coefficient)
  where
    k : ℕ
    k = unsigned_abs (d.exponent -ℤ m)

    by : (s : Bool) × (n : ℕ) × (d.coefficient ≡ signed s n) → key_of_number (number (d.coefficient *ℤ pos (10 ^ k)) m) ≡ key_of_number d
    by (s, zero, is) =
        let none : d.coefficient ≡ pos 0 = is ∙ zero_of s in
        key_of_zero (number (d.coefficient *ℤ pos (10 ^ k)) m) (ap (λ c. c *ℤ pos (10 ^ k)) none ∙ ap pos (zero-mul (10 ^ k)))
        ∙ sym (key_of_zero d none)
    by (s, suc n, is) =
        let back : signed s (suc n) ≡ d.coefficient = sym is in
        let there : m +ℤ pos k ≡ d.exponent = sym (way d.exponent m h) in
        ap (λ c. key_of_number (number (c *ℤ pos (10 ^ k)) m)) is
        ∙ ap (λ c. key_of_number (number c m)) (times_of s (suc n) (10 ^ k))
        ∙ key_lower s (suc n) m k (omega arith)
        ∙ (λ i. key_of_number (number (back i) (there i)))
        ∙ sym (key_same d)

raised_way : (e m : ℤ) (k : ℕ) → m ≤ℤ e → unsigned_abs (e +ℤ pos k -ℤ m) ≡ k + unsigned_abs (e -ℤ m)
raised_way e m k h = omega (arith, ints)

-- what is left of a number without its zeros, with them put back
put_back : (n : ℕ) → 1 ≤ n → n / 10 ^ zeros_of n * 10 ^ zeros_of n ≡ n
put_back n one =
    let p = parted n one in
    let power : 1 ≤ 10 ^ zeros_of n = one-le-pow (zeros_of n) 10 (lit< tt) in
    ap (λ m. m / 10 ^ zeros_of n * 10 ^ zeros_of n) p.whole
    ∙ ap (λ r. r * 10 ^ zeros_of n) (mul-div_cancel p.rest power)
    ∙ sym p.whole

-- a number's key, as a number, and its value
pub record Keyed (d : DecimalParts) : Type 0 where
  pub coefficient : ℤ
  pub exponent : ℤ
  pub key_is : key_of_number d ≡ key.Number coefficient exponent
  pub value : (m : ℤ) → m ≤ℤ d.exponent → brought d m ≡ coefficient *ℤ pos (10 ^ unsigned_abs (exponent -ℤ m))

pub keyed : (d : DecimalParts) → Keyed d
unfolding brought
keyed d = by (signed_size d.coefficient)
  where
    by : (s : Bool) × (n : ℕ) × (d.coefficient ≡ signed s n) → Keyed d
    by (s, zero, is) =
        let none : d.coefficient ≡ pos 0 = is ∙ zero_of s in
        record {
          coefficient = pos 0;
          exponent = pos 0;
          key_is = key_of_zero d none;
          value = λ m h. ap (λ c. c *ℤ pos (10 ^ unsigned_abs (d.exponent -ℤ m))) none ∙ ap pos (zero-mul _ ∙ sym (zero-mul _));
        }
    by (s, suc n, is) =
        let zeros : ℕ = zeros_of (suc n) in
        record {
          coefficient = signed s (suc n / 10 ^ zeros);
          exponent = d.exponent +ℤ pos zeros;
          key_is = key_same d ∙ ap (λ c. key_of_number (number c d.exponent)) is ∙ key_of_signed s (suc n) d.exponent (omega arith);
          value = λ m h.
              ap (λ c. c *ℤ pos (10 ^ unsigned_abs (d.exponent -ℤ m))) (is ∙ ap (signed s) (sym (put_back (suc n) (omega arith))) ∙ sym (times_of s (suc n / 10 ^ zeros) (10 ^ zeros)))
              ∙ times_twice (signed s (suc n / 10 ^ zeros)) (10 ^ zeros) (10 ^ unsigned_abs (d.exponent -ℤ m))
              ∙ ap (λ p. signed s (suc n / 10 ^ zeros) *ℤ pos p) (sym (pow-add 10 zeros (unsigned_abs (d.exponent -ℤ m))))
              ∙ ap (λ w. signed s (suc n / 10 ^ zeros) *ℤ pos (10 ^ w)) (sym (raised_way d.exponent m zeros h));
        }

key_from_equal : (a b : DecimalParts) → compare_numbers a b ≡ Equal → key_of_number a ≡ key_of_number b
key_from_equal a b h =
    let m : ℤ = lesser a b in
    let same : brought a m ≡ brought b m = (Decides-int_eq (brought a m) (brought b m)).0 (ap is_eq h) in
    sym (key_brought a m (lesser_first a.exponent b.exponent)) ∙ ap (λ c. key_of_number (number c m)) same ∙ key_brought b m (lesser_second a.exponent b.exponent)

equal_from_key : (a b : DecimalParts) → key_of_number a ≡ key_of_number b → compare_numbers a b ≡ Equal
equal_from_key a b e =
    let m : ℤ = lesser a b in
    let x = keyed a in
    let y = keyed b in
    let keys : key.Number x.coefficient x.exponent ≡ key.Number y.coefficient y.exponent = sym x.key_is ∙ e ∙ y.key_is in
    let coefficients : x.coefficient ≡ y.coefficient = cc keys in
    let exponents : x.exponent ≡ y.exponent = cc keys in
    let same : brought a m ≡ brought b m =
    x.value m (lesser_first a.exponent b.exponent) ∙ (λ i. coefficients i *ℤ pos (10 ^ unsigned_abs (exponents i -ℤ m))) ∙ sym (y.value m (lesser_second a.exponent b.exponent)) in
    ap (λ n. int_cmp n (brought b m)) same ∙ tied_itself int_cmp_total (brought b m)

-- two numbers are equal by value exactly where they have one key
pub equal_keys : (a b : DecimalParts) → (compare_numbers a b ≡ Equal) ↔ (key_of_number a ≡ key_of_number b)
equal_keys a b = (key_from_equal a b, equal_from_key a b)
