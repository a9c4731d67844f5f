-- The milliseconds with which the years 1 and 10000 begin, and the days between.
use Rattle.std.proofs.Common.{◌≡◌, ◌+◌, ◌<◌, ◌≤◌, Bool, true, false, ◌&&◌, ℤ, pos, negsuc, neg_ℤ, ◌≤ℤ◌, ◌+ℤ◌, ◌-ℤ◌, ◌*ℤ◌, int_le, int_lt, unsigned_abs, refl, sym, arith, w64, to_z, of_z, if◌then◌else◌}
use Rattle.std.specs.Int.{int_div_euclid, int_rem_euclid}
use borrow.Author.Differences.{up, down, le-true, le-false, lt-true, lt-false, true_is_le, true_is_lt}
use Rattle.jiff_core.proofs.SignedLemmas.{signed_arith, back_small, one_part, unsigned_abs-parts, int_div_euclid-parts}
use Rattle.ion_values.proofs.Years.{first_day, day_after_last}
use Rattle.ion_time.specs.Millis.{first_milli, IsWithinYears, nearest}

pub both : (a b : Bool) → a ≡ true → b ≡ true → (a && b) ≡ true
both a b ha hb = rw (ha, hb) refl

pub both_true : (a b : Bool) → (a && b) ≡ true → (a ≡ true) × (b ≡ true)
both_true true b h = (refl, h)
both_true false b h = absurd (cc)

pub le_yes : (a b : ℤ) → up a + down b ≤ up b + down a → int_le a b ≡ true
le_yes a b h = sym (true_is_le a b h)

pub lt_yes : (a b : ℤ) → up a + down b < up b + down a → int_lt a b ≡ true
lt_yes a b h = sym (true_is_lt a b h)

abbrev pub first : ℤ
first = negsuc 62_135_596_799_999

abbrev pub past : ℤ
past = pos 253_402_300_800_000

pub first_is : first_milli 1 ≡ first
first_is = rw first_day refl

pub past_is : first_milli 10_000 ≡ past
past_is = rw day_after_last refl

pub within_bounds : (ms : ℤ) → IsWithinYears ms → (int_le first ms ≡ true) × (int_lt ms past ≡ true)
within_bounds ms h = both_true (int_le first ms) (int_lt ms past) (rw (first_day, day_after_last) at h)

between : (ms : ℤ) → int_lt ms first ≡ false → int_le past ms ≡ false → (int_le first ms && int_lt ms past) ≡ true
between ms low high =
    both (int_le first ms) (int_lt ms past) (le_yes first ms (omega (arith, lt-false ms first low))) (lt_yes ms past (omega (arith, le-false past ms high)))

pub between_is_within : (ms : ℤ) → int_lt ms first ≡ false → int_le past ms ≡ false → IsWithinYears ms
between_is_within ms low high = rw (first_day, day_after_last) (between ms low high)

pub day_bounds : (ms : ℤ) → IsWithinYears ms
    → (neg_ℤ (pos 719_162) ≤ℤ int_div_euclid ms (pos 86_400_000)) × (int_div_euclid ms (pos 86_400_000) ≤ℤ pos 2_932_896)
day_bounds ms h =
    let b = within_bounds ms h in (
      omega (arith, signed_arith, int_div_euclid-parts ms 86_400_000 (omega arith), le-true first ms b.0),
      omega (arith, signed_arith, int_div_euclid-parts ms 86_400_000 (omega arith), lt-true ms past b.1),
    )

small : (day : ℤ) → neg_ℤ (pos 719_162) ≤ℤ day → day ≤ℤ pos 2_932_896 → unsigned_abs day ≤ 2_932_896
small (pos n) low high = omega (arith, signed_arith)
small (negsuc n) low high = omega (arith, signed_arith)

-- a day's number fits 64 bits
pub day_back : (day : ℤ) → neg_ℤ (pos 719_162) ≤ℤ day → day ≤ℤ pos 2_932_896 → to_z w64 (of_z w64 day) ≡ day
day_back day low high = back_small w64 day (omega (arith, small day low high))

pub day_and_rest : (ms : ℤ) → int_div_euclid ms (pos 86_400_000) *ℤ pos 86_400_000 +ℤ pos (unsigned_abs (int_rem_euclid ms (pos 86_400_000))) ≡ ms
day_and_rest (pos n) = omega (arith, signed_arith)
day_and_rest (negsuc n) = omega (arith, signed_arith)

-- ---- the nearest one

abbrev chosen : Bool → Bool → ℤ → ℤ
chosen early late ms = if early then first else (if late then past -ℤ pos 1 else ms)

chosen_within : (ms : ℤ) (early late : Bool) → int_lt ms first ≡ early → int_le past ms ≡ late
    → (int_le first (chosen early late ms) && int_lt (chosen early late ms) past) ≡ true
chosen_within ms true late he hl = refl
chosen_within ms false true he hl = refl
chosen_within ms false false he hl = between ms he hl

chosen_near : (ms other : ℤ) (early late : Bool) → int_lt ms first ≡ early → int_le past ms ≡ late → IsWithinYears other
    → unsigned_abs (chosen early late ms -ℤ ms) ≤ unsigned_abs (other -ℤ ms)
chosen_near ms other true late he hl h =
    let b = within_bounds other h in
    omega (arith, signed_arith, unsigned_abs-parts (first -ℤ ms), one_part (first -ℤ ms), unsigned_abs-parts (other -ℤ ms), lt-true ms first he, le-true first other b.0)
chosen_near ms other false true he hl h =
    let b = within_bounds other h in
    omega (arith, signed_arith, unsigned_abs-parts (past -ℤ pos 1 -ℤ ms), one_part (past -ℤ pos 1 -ℤ ms), unsigned_abs-parts (other -ℤ ms), le-true past ms hl, lt-true other past b.1)
chosen_near ms other false false he hl h = omega (arith, signed_arith, unsigned_abs-parts (ms -ℤ ms), one_part (ms -ℤ ms))

pub nearest_within : (ms : ℤ) → IsWithinYears (nearest ms)
nearest_within ms = rw (first_is, past_is) (chosen_within ms (int_lt ms first) (int_le past ms) refl refl)

pub nearest_near : (ms other : ℤ) → IsWithinYears other → unsigned_abs (nearest ms -ℤ ms) ≤ unsigned_abs (other -ℤ ms)
nearest_near ms other h = rw (first_is, past_is) (chosen_near ms other (int_lt ms first) (int_le past ms) refl refl h)
