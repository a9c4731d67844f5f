-- Numbers are compared by value: at each exponent that isn't above theirs they compare alike.
use Rattle.std.proofs.Common.{◌≡◌, ◌∙◌, ℕ, zero, suc, ◌+◌, ◌*◌, ◌^◌, ◌<◌, ◌≤◌, ℤ, pos, negsuc, ◌+ℤ◌, ◌-ℤ◌, ◌*ℤ◌, neg_ℤ, ◌≤ℤ◌, Bool, true, false, cond, unsigned_abs, int_lt, int_cmp, refl, sym, ap, arith, lit<, pow-add}
use Rattle.std.specs.Int.{int_min}
use Rattle.std.specs.Cmp.{IsTotalOrder}
use Rattle.std.specs.declared.cmp.Ordering.{Ordering}
use Rattle.std.specs.declared.cmp.Ordering.TheVariants.{Less, Equal, Greater}
use Rattle.std.specs.Ordering.{ordering_reverse}
use Rattle.std.proofs.lemmas.Cmp.{int_cmp_total}
use Rattle.std.proofs.lemmas.Int.{ints, int_min_is}
use Rattle.std.proofs.Math.Nat.{mul_assoc, zero-mul, one-le-pow, mul-lt-mul_of_pos_right, mul-le-mul_right}
use Rattle.jiff_core.proofs.SignedLemmas.{signed_arith}
use borrow.Author.Differences.{up, down, lt-true, lt-false, product_is, true_is_lt, false_is_lt}
use Rattle.ion_values.specs.Decimal.{DecimalParts}
use Rattle.ion_order.specs.Numbers.{brought, lesser}
use Rattle.ion_order.specs.Compare.{compare_numbers}

pub negative_times : (x b : ℕ) → neg_ℤ (pos x) *ℤ pos b ≡ neg_ℤ (pos (x * b))
negative_times zero b = rw (zero-mul b) refl
negative_times (suc x) b = refl

pub times_twice : (n : ℤ) (a b : ℕ) → n *ℤ pos a *ℤ pos b ≡ n *ℤ pos (a * b)
times_twice (pos n) a b = ap pos (mul_assoc n a b)
times_twice (negsuc n) a b = negative_times (suc n * a) b ∙ ap (λ k. neg_ℤ (pos k)) (mul_assoc (suc n) a b)

-- the way from an exponent down to another
pub way : (x m : ℤ) → m ≤ℤ x → x ≡ m +ℤ pos (unsigned_abs (x -ℤ m))
way x m h = omega (arith, ints)

ways : (x e m : ℤ) → m ≤ℤ e → e ≤ℤ x → unsigned_abs (x -ℤ m) ≡ unsigned_abs (x -ℤ e) + unsigned_abs (e -ℤ m)
ways x e m h k = omega (arith, ints)

brought-lower : (d : DecimalParts) (e m : ℤ) → m ≤ℤ e → e ≤ℤ d.exponent → brought d m ≡ brought d e *ℤ pos (10 ^ unsigned_abs (e -ℤ m))
unfolding brought
brought-lower d e m h k =
    ap (λ n. d.coefficient *ℤ pos (10 ^ n)) (ways d.exponent e m h k)
    ∙ ap (λ p. d.coefficient *ℤ pos p) (pow-add 10 (unsigned_abs (d.exponent -ℤ e)) (unsigned_abs (e -ℤ m)))
    ∙ sym (times_twice d.coefficient (10 ^ unsigned_abs (d.exponent -ℤ e)) (10 ^ unsigned_abs (e -ℤ m)))

less_scaled : (x y : ℤ) (k : ℕ) → 0 < k → int_lt (x *ℤ pos k) (y *ℤ pos k) ≡ int_lt x y
less_scaled x y k h = by (int_lt x y) refl
  where
    by : (b : Bool) → int_lt x y ≡ b → int_lt (x *ℤ pos k) (y *ℤ pos k) ≡ b
    by true e =
        let less : (up x + down y) * k < (up y + down x) * k = mul-lt-mul_of_pos_right (lt-true x y e) h in
        sym (true_is_lt (x *ℤ pos k) (y *ℤ pos k) (omega (arith, product_is x (pos k), product_is y (pos k), less)))
    by false e =
        let most : (up y + down x) * k ≤ (up x + down y) * k = mul-le-mul_right k (lt-false x y e) in
        sym (false_is_lt (x *ℤ pos k) (y *ℤ pos k) (omega (arith, product_is x (pos k), product_is y (pos k), most)))

compare-scaled : (x y : ℤ) (k : ℕ) → 0 < k → int_cmp (x *ℤ pos k) (y *ℤ pos k) ≡ int_cmp x y
compare-scaled x y k h = λ i. cond (less_scaled x y k h i) Less (cond (less_scaled y x k h i) Greater Equal)

lesser_within : (x y m : ℤ) → m ≤ℤ x → m ≤ℤ y → m ≤ℤ int_min x y
lesser_within x y m h k = omega (arith, ints, int_min_is x y)

pub lesser_first : (x y : ℤ) → int_min x y ≤ℤ x
lesser_first x y = omega (arith, ints, int_min_is x y)

pub lesser_second : (x y : ℤ) → int_min x y ≤ℤ y
lesser_second x y = omega (arith, ints, int_min_is x y)

pub compare_at : (a b : DecimalParts) (m : ℤ) → m ≤ℤ a.exponent → m ≤ℤ b.exponent → compare_numbers a b ≡ int_cmp (brought a m) (brought b m)
compare_at a b m h k =
    let e : ℤ = lesser a b in
    let within : m ≤ℤ e = lesser_within a.exponent b.exponent m h k in
    let p : ℕ = 10 ^ unsigned_abs (e -ℤ m) in
    let a_is = brought-lower a e m within (lesser_first a.exponent b.exponent) in
    let b_is = brought-lower b e m within (lesser_second a.exponent b.exponent) in
    sym (compare-scaled (brought a e) (brought b e) p (one-le-pow (unsigned_abs (e -ℤ m)) 10 (lit< tt))) ∙ sym (λ i. int_cmp (a_is i) (b_is i))

abbrev least_of : DecimalParts → DecimalParts → DecimalParts → ℤ
least_of a b c = int_min (int_min a.exponent b.exponent) c.exponent

-- below the exponents of three
below_three : (x y z : ℤ) → (int_min (int_min x y) z ≤ℤ x) × (int_min (int_min x y) z ≤ℤ y) × (int_min (int_min x y) z ≤ℤ z)
below_three x y z =
    let inner = int_min_is x y in
    let outer = int_min_is (int_min x y) z in
    (omega (arith, ints), omega (arith, ints), omega (arith, ints))

turned_round : (a b : DecimalParts) → compare_numbers a b ≡ ordering_reverse (compare_numbers b a)
turned_round a b =
    let m : ℤ = lesser a b in
    let first = lesser_first a.exponent b.exponent in
    let second = lesser_second a.exponent b.exponent in
    int_cmp_total.antisymm (brought a m) (brought b m) ∙ ap ordering_reverse (sym (compare_at b a m second first))

chained : (a b c : DecimalParts) → compare_numbers a b ≡ Less → compare_numbers b c ≡ Less → compare_numbers a c ≡ Less
chained a b c h k =
    let m : ℤ = least_of a b c in
    let low = below_three a.exponent b.exponent c.exponent in
    compare_at a c m low.0 low.2
    ∙ int_cmp_total.trans (brought a m) (brought b m) (brought c m) (sym (compare_at a b m low.0 low.1) ∙ h) (sym (compare_at b c m low.1 low.2) ∙ k)

alike : (a b c : DecimalParts) → compare_numbers a b ≡ Equal → compare_numbers a c ≡ compare_numbers b c
alike a b c h =
    let m : ℤ = least_of a b c in
    let low = below_three a.exponent b.exponent c.exponent in
    compare_at a c m low.0 low.2
    ∙ int_cmp_total.congr (brought a m) (brought b m) (brought c m) (sym (compare_at a b m low.0 low.1) ∙ h)
    ∙ sym (compare_at b c m low.1 low.2)

pub numbers_total : IsTotalOrder compare_numbers
numbers_total = record { antisymm = turned_round; trans = chained; congr = alike }
