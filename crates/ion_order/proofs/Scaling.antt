-- Numbers brought to another exponent.
use Rattle.std.proofs.Common.{◌≡◌, ◌∙◌, ℕ, zero, suc, ◌+◌, ◌*◌, ◌^◌, ◌<◌, ◌≤◌, ℤ, pos, negsuc, ◌*ℤ◌, ◌-ℤ◌, neg_ℤ, ◌<ℤ◌, ◌≤ℤ◌, FitsSigned, unsigned_abs, refl, sym, ap, arith, int_cmp, lit≤, lit<}
use Rattle.std.specs.Int.{w128, int_min}
use Rattle.std.proofs.Math.Nat.{pow-le-pow_right, le-mul_of_pos_right, mul-le-mul}
use Rattle.std.proofs.lemmas.Int.{int_min_is}
use Rattle.std.proofs.lemmas.Cmp.{int_cmp_total}
use Rattle.std.specs.Ordering.{ordering_reverse}
use Rattle.jiff_core.proofs.SignedLemmas.{signed_arith, unsigned_abs-product}
use lib.IntN.{+ℤ_invr}
use lib.Signed.{nat_abs-le}
use Rattle.ion_values.specs.Decimal.{DecimalParts}
use Rattle.ion_order.specs.Numbers.{brought, whole}
use Rattle.ion_order.specs.Compare.{compare_numbers}

pub some : (n : ℤ) → (n ≡ pos 0 → ⊥) → 1 ≤ unsigned_abs n
some (pos n) h = omega (arith, λ (e : n ≡ 0). h (ap pos e))
some (negsuc n) h = omega arith

-- no number but 0 has room for 39 zeros
pub too_many : (n : ℤ) (zeros : ℕ) → (n ≡ pos 0 → ⊥) → 38 < zeros → FitsSigned w128 (n *ℤ pos (10 ^ zeros)) → ⊥
too_many n zeros h more fits =
    let least : 10 ^ 39 ≤ 10 ^ zeros = pow-le-pow_right {n = 10} (lit< tt) {i = 39} {j = zeros} (omega arith) in
    let size : unsigned_abs (n *ℤ pos (10 ^ zeros)) ≡ unsigned_abs n * 10 ^ zeros = unsigned_abs-product n (pos (10 ^ zeros)) in
    let most : unsigned_abs (n *ℤ pos (10 ^ zeros)) ≤ 2 ^ 127 = nat_abs-le (n *ℤ pos (10 ^ zeros)) fits.sfits in
    let product : 1 * 10 ^ zeros ≤ unsigned_abs n * 10 ^ zeros = mul-le-mul (some n h) (omega arith) in
    omega arith

pub power_fits : (zeros : ℕ) → zeros ≤ 38 → FitsSigned w128 (pos (10 ^ zeros))
power_fits zeros h =
    let most : 10 ^ zeros ≤ 10 ^ 38 = pow-le-pow_right {n = 10} (lit< tt) h in
    record { sfits = omega arith }

times_one : (n : ℤ) → n *ℤ pos 1 ≡ n
times_one n = omega (arith, signed_arith)

no_way : (e : ℤ) → unsigned_abs (e -ℤ e) ≡ 0
no_way e = ap unsigned_abs (+ℤ_invr e)

size_of_negative : (n : ℤ) → unsigned_abs (neg_ℤ n) ≡ unsigned_abs n
size_of_negative (pos zero) = refl
size_of_negative (pos (suc n)) = refl
size_of_negative (negsuc n) = refl

way_back : (e f : ℤ) → unsigned_abs (e -ℤ f) ≡ unsigned_abs (f -ℤ e)
way_back e f =
    let same : e -ℤ f ≡ neg_ℤ (f -ℤ e) = omega (arith, signed_arith) in
    ap unsigned_abs same ∙ size_of_negative (f -ℤ e)

-- a number at its own exponent
pub brought-own : (d : DecimalParts) → brought d d.exponent ≡ d.coefficient
unfolding brought
brought-own d = rw (no_way d.exponent) (times_one d.coefficient)

least_below : (e f : ℤ) → e ≤ℤ f → int_min e f ≡ e
least_below e f h = grind (arith, signed_arith)

least_above : (e f : ℤ) → f ≤ℤ e → int_min e f ≡ f
least_above e f h = omega (arith, signed_arith, int_min_is e f)

turned : (a b : ℤ) → ordering_reverse (int_cmp b a) ≡ int_cmp a b
turned a b = sym (int_cmp_total.antisymm a b)

pub compare_below : (a b : DecimalParts) → a.exponent ≤ℤ b.exponent
    → ordering_reverse (int_cmp (b.coefficient *ℤ pos (10 ^ unsigned_abs (a.exponent -ℤ b.exponent))) a.coefficient) ≡ compare_numbers a b
unfolding brought
compare_below a b h =
    turned a.coefficient _
    ∙ rw (least_below a.exponent b.exponent h, no_way a.exponent, times_one a.coefficient, way_back a.exponent b.exponent) refl

pub compare_above : (a b : DecimalParts) → b.exponent ≤ℤ a.exponent
    → int_cmp (a.coefficient *ℤ pos (10 ^ unsigned_abs (a.exponent -ℤ b.exponent))) b.coefficient ≡ compare_numbers a b
unfolding brought
compare_above a b h = rw (least_above a.exponent b.exponent h, no_way b.exponent, times_one b.coefficient) refl

pub compare_whole : (m n : ℤ) → compare_numbers (whole m) (whole n) ≡ int_cmp m n
unfolding brought
compare_whole m n = rw (times_one m, times_one n) refl
