-- The parts of a timestamp are in their ranges, and a day's number has one date.
use Rattle.std.proofs.Common.{◌≡◌, ℕ, ◌<◌, ◌≤◌, true, ◌&&◌, nat_lt, pos, arith}
use Rattle.std.specs.Prelude.{nat_le, ◌==◌, ◌%◌, ◌^◌, ◌-◌}
use Rattle.std.proofs.lemmas.Bool.Decides.{nat_tests}
use Rattle.jiff_core.specs.declared.civil.date.Date.{Date}
use Rattle.jiff_core.specs.Calendar.{IsCivilDate, days_from_civil, days_in_month}
use Rattle.jiff_core.proofs.DateLemmas.{epoch_day_injective}
use Rattle.jiff_core.proofs.SignedLemmas.{signed_arith}
use Rattle.ion_values.specs.declared.time.TimeParts.{TimeParts}
use Rattle.ion_values.specs.Time.{IsTime, is_time, is_date, is_clock, is_offset, is_fraction, ends_at, is_in_years, utc_minutes}
use Rattle.ion_time.proofs.Bounds.{both_true}

le_is : (a b : ℕ) → nat_le a b ≡ true → a ≤ b
le_is a b h = grind (arith, nat_tests)

lt_is : (a b : ℕ) → nat_lt a b ≡ true → a < b
lt_is a b h = grind (arith, nat_tests)

civil_of : (year month day : ℕ) → is_date year month day ≡ true → IsCivilDate (pos year) month day
civil_of year month day h =
    let last = both_true (nat_le 1 year && nat_le year 9999 && nat_le 1 month && nat_le month 12 && nat_le 1 day) (nat_le day (days_in_month (pos year) month)) h in
    let least = both_true (nat_le 1 year && nat_le year 9999 && nat_le 1 month && nat_le month 12) (nat_le 1 day) last.0 in
    let high = both_true (nat_le 1 year && nat_le year 9999 && nat_le 1 month) (nat_le month 12) least.0 in
    let low = both_true (nat_le 1 year && nat_le year 9999) (nat_le 1 month) high.0 in
    let years = both_true (nat_le 1 year) (nat_le year 9999) low.0 in
    let end = le_is year 9999 years.1 in (
      (omega (arith, signed_arith), omega (arith, signed_arith)),
      (le_is 1 month low.1, le_is month 12 high.1),
      (le_is 1 day least.1, le_is day (days_in_month (pos year) month) last.1),
    )

pub record Parts (t : TimeParts) : Type 0 where
  pub civil : IsCivilDate (pos t.year) t.month t.day
  pub hour : t.hour < 24
  pub minute : t.minute < 60
  pub second : t.second < 60
  pub nanos : t.nanos < 1_000_000_000

pub parts_of : (t : TimeParts) → IsTime t → Parts t
unfolding is_time
parts_of t h =
    let years = both_true (is_date t.year t.month t.day && is_clock t && is_offset t.offset && is_fraction t.digits t.nanos && ends_at t.precision t) (is_in_years (utc_minutes t)) h in
    let ends = both_true (is_date t.year t.month t.day && is_clock t && is_offset t.offset && is_fraction t.digits t.nanos) (ends_at t.precision t) years.0 in
    let fraction = both_true (is_date t.year t.month t.day && is_clock t && is_offset t.offset) (is_fraction t.digits t.nanos) ends.0 in
    let offset = both_true (is_date t.year t.month t.day && is_clock t) (is_offset t.offset) fraction.0 in
    let date = both_true (is_date t.year t.month t.day) (is_clock t) offset.0 in
    let seconds = both_true (nat_lt t.hour 24 && nat_lt t.minute 60) (nat_lt t.second 60) date.1 in
    let minutes = both_true (nat_lt t.hour 24) (nat_lt t.minute 60) seconds.0 in
    let digits = both_true (nat_le t.digits 9 && nat_lt t.nanos 1_000_000_000) (t.nanos % 10 ^ (9 - t.digits) == 0) fraction.1 in
    let nanos = both_true (nat_le t.digits 9) (nat_lt t.nanos 1_000_000_000) digits.0 in
    record {
      civil = civil_of t.year t.month t.day date.0;
      hour = lt_is t.hour 24 minutes.0;
      minute = lt_is t.minute 60 minutes.1;
      second = lt_is t.second 60 seconds.1;
      nanos = lt_is t.nanos 1_000_000_000 nanos.1;
    }

abbrev dated : (year month day : ℕ) → IsCivilDate (pos year) month day → Date
dated year month day h = record { year = pos year; month = month; day = day; year_in = h.0; month_in = h.1; day_in = h.2 }

pub record SameDate (s t : TimeParts) : Type 0 where
  pub year : s.year ≡ t.year
  pub month : s.month ≡ t.month
  pub day : s.day ≡ t.day

same_year : (a b : ℕ) → pos a ≡ pos b → a ≡ b
same_year a b h = omega (arith, signed_arith)

-- two dates of one day are the same
pub same_date : (s t : TimeParts) → Parts s → Parts t → days_from_civil (pos s.year) s.month s.day ≡ days_from_civil (pos t.year) t.month t.day → SameDate s t
same_date s t hs ht e =
    let parts = epoch_day_injective (dated s.year s.month s.day hs.civil) (dated t.year t.month t.day ht.civil) e in
    record { year = same_year s.year t.year parts.0; month = parts.1; day = parts.2 }
