-- The parts of a moment of a date are a timestamp that begins then.
use Rattle.std.proofs.Common.{◌≡◌, ℕ, ◌+◌, ◌*◌, ◌/◌, ◌%◌, ◌<◌, ◌≤◌, true, ℤ, pos, negsuc, neg_ℤ, ◌≤ℤ◌, ◌<ℤ◌, ◌+ℤ◌, ◌-ℤ◌, ◌*ℤ◌, int_le, int_lt, refl, sym, subst, arith, zero, suc}
use borrow.Author.Tests as tests
use Rattle.jiff_core.specs.Calendar.{IsCivilDate, days_from_civil, days_in_month}
use Rattle.jiff_core.proofs.CalendarLemmas.{days_from_civil-day_count, day_count-lt_year}
use Rattle.jiff_core.proofs.SignedLemmas.{signed_arith}
use Rattle.ion_values.proofs.Years.{first_day, day_after_last}
use Rattle.ion_values.specs.Time.{is_date, is_clock, is_fraction, is_in_years, is_time, utc_minutes}
use Rattle.ion_time.specs.DayTimes.{time_of_day}
use Rattle.ion_time.specs.Millis.{BeginsAt}
use Rattle.ion_time.proofs.Bounds.{both, le_yes, lt_yes}

before_first_year : (y : ℤ) (m d : ℕ) → IsCivilDate y m d → y <ℤ pos 1 → neg_ℤ (pos 719_162) ≤ℤ days_from_civil y m d → ⊥
before_first_year y m d civil early late =
    omega (
      arith,
      signed_arith,
      first_day,
      days_from_civil-day_count (pos 1) 1 1,
      days_from_civil-day_count y m d,
      day_count-lt_year y m d (pos 1) 1 1 civil (omega arith) early,
    )

-- a date from the year 1 on
pub from_first_year : (y : ℤ) (m d : ℕ) → IsCivilDate y m d → neg_ℤ (pos 719_162) ≤ℤ days_from_civil y m d → pos 1 ≤ℤ y
from_first_year (pos zero) m d civil late = absurd (before_first_year (pos zero) m d civil (omega (arith, signed_arith)) late)
from_first_year (pos (suc n)) m d civil late = omega (arith, signed_arith)
from_first_year (negsuc n) m d civil late = absurd (before_first_year (negsuc n) m d civil (omega (arith, signed_arith)) late)

date_holds : (y m d : ℕ) → IsCivilDate (pos y) m d → 1 ≤ y → y ≤ 9999 → is_date y m d ≡ true
date_holds y m d civil first last =
    rw (sym (tests.le-true 1 y first), sym (tests.le-true y 9999 last), sym (tests.le-true 1 m (omega arith)), sym (tests.le-true m 12 (omega arith)), sym (tests.le-true 1 d (omega arith)), sym (tests.le-true d (days_in_month (pos y) m) (omega arith))) refl

clock_holds : (y m d millis : ℕ) → millis < 86_400_000 → is_clock (time_of_day y m d millis) ≡ true
clock_holds y m d millis within =
    rw (
      sym (tests.lt-true (millis / 3_600_000) 24 (omega arith)),
      sym (tests.lt-true (millis / 60_000 % 60) 60 (omega arith)),
      sym (tests.lt-true (millis / 1_000 % 60) 60 (omega arith)),
    ) refl

whole_millis : (n : ℕ) → n * 1_000_000 % 1_000_000 ≡ 0
whole_millis n = omega arith

fraction_holds : (millis : ℕ) → is_fraction 3 (millis % 1_000 * 1_000_000) ≡ true
fraction_holds millis =
    rw (sym (tests.lt-true (millis % 1_000 * 1_000_000) 1_000_000_000 (omega arith)), whole_millis (millis % 1_000)) refl

years_hold : (y m d millis : ℕ) → millis < 86_400_000 → neg_ℤ (pos 719_162) ≤ℤ days_from_civil (pos y) m d → days_from_civil (pos y) m d ≤ℤ pos 2_932_896
    → is_in_years (utc_minutes (time_of_day y m d millis)) ≡ true
years_hold y m d millis within first last =
    rw (first_day, day_after_last) (both (int_le (negsuc 1_035_593_279) (utc_minutes (time_of_day y m d millis))) (int_lt (utc_minutes (time_of_day y m d millis)) (pos 4_223_371_680))
    (le_yes (negsuc 1_035_593_279) (utc_minutes (time_of_day y m d millis)) (omega (arith, signed_arith)))
    (lt_yes (utc_minutes (time_of_day y m d millis)) (pos 4_223_371_680) (omega (arith, signed_arith))))

is_timestamp : (y m d millis : ℕ) → IsCivilDate (pos y) m d → 1 ≤ y → y ≤ 9999 → millis < 86_400_000
    → neg_ℤ (pos 719_162) ≤ℤ days_from_civil (pos y) m d → days_from_civil (pos y) m d ≤ℤ pos 2_932_896 → is_time (time_of_day y m d millis) ≡ true
unfolding is_time
is_timestamp y m d millis civil first last within low high =
    both _ _ (both _ _ (both _ _ (both _ _ (both _ _ (date_holds y m d civil first last) (clock_holds y m d millis within)) refl) (fraction_holds millis)) refl)
    (years_hold y m d millis within low high)

instant_is : (day : ℤ) (millis : ℕ)
    → ((day *ℤ pos 1440 +ℤ pos (millis / 3_600_000 * 60 + millis / 60_000 % 60)) -ℤ pos 0) *ℤ pos 60_000_000_000 +ℤ pos (millis / 1_000 % 60 * 1_000_000_000 + millis % 1_000 * 1_000_000)
    ≡ (day *ℤ pos 86_400_000 +ℤ pos millis) *ℤ pos 1_000_000
instant_is day millis = omega (arith, signed_arith)

on_date : (y m d millis : ℕ) → IsCivilDate (pos y) m d → 1 ≤ y → y ≤ 9999 → millis < 86_400_000
    → neg_ℤ (pos 719_162) ≤ℤ days_from_civil (pos y) m d → days_from_civil (pos y) m d ≤ℤ pos 2_932_896
    → BeginsAt (days_from_civil (pos y) m d *ℤ pos 86_400_000 +ℤ pos millis) (time_of_day y m d millis)
on_date y m d millis civil first last within low high = record {
  is_time = is_timestamp y m d millis civil first last within low high;
  precision = refl;
  digits = refl;
  offset = refl;
  instant = instant_is (days_from_civil (pos y) m d) millis;
}

pub on_day : (day : ℤ) (y m d millis : ℕ) → days_from_civil (pos y) m d ≡ day → IsCivilDate (pos y) m d → 1 ≤ y → y ≤ 9999 → millis < 86_400_000
    → neg_ℤ (pos 719_162) ≤ℤ day → day ≤ℤ pos 2_932_896
    → BeginsAt (day *ℤ pos 86_400_000 +ℤ pos millis) (time_of_day y m d millis)
on_day day y m d millis is civil first last within low high =
    subst (λ (z : ℤ). BeginsAt (z *ℤ pos 86_400_000 +ℤ pos millis) (time_of_day y m d millis)) is
    (on_date y m d millis civil first last within (subst (λ (z : ℤ). neg_ℤ (pos 719_162) ≤ℤ z) (sym is) low) (subst (λ (z : ℤ). z ≤ℤ pos 2_932_896) (sym is) high))
