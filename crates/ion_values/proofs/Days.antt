-- The numbers of the days before and after a day.
use Rattle.std.proofs.Common.{◌≡◌, ◌∙◌, ℕ, ◌+◌, ◌-◌, ◌<◌, ◌≤◌, Bool, true, false, ◌&&◌, nat_lt, if◌then◌else◌, pos, ◌+ℤ◌, refl, ap, arith}
use Rattle.std.specs.Prelude.{nat_le}
use Rattle.std.proofs.lemmas.Bool.Decides.{nat_tests}
use Rattle.jiff_core.specs.Calendar.{days_from_civil, days_in_month}
use Rattle.jiff_core.proofs.DateLemmas.{days_from_civil-day, days_from_civil-next_month, days_from_civil-next_year}
use Rattle.jiff_core.proofs.SignedLemmas.{signed_arith}
use Rattle.ion_values.specs.Dates.{Date, day_number, DaysAreNumbered}
use Rattle.ion_values.specs.Time.{is_date}

pub both_true : (a b : Bool) → (a && b) ≡ true → (a ≡ true) × (b ≡ true)
both_true true b h = (refl, h)
both_true false b h = absurd (cc)

le_is : (a b : ℕ) → nat_le a b ≡ true → a ≤ b
le_is a b h = grind (arith, nat_tests)

lt_is : (a b : ℕ) → nat_lt a b ≡ true → a < b
lt_is a b h = grind (arith, nat_tests)

lt_not : (a b : ℕ) → nat_lt a b ≡ false → b ≤ a
lt_not a b h = grind (arith, nat_tests)

pub record DayParts (year month day : ℕ) : Type 0 where
  pub first_year : 1 ≤ year
  pub first_month : 1 ≤ month
  pub last_month : month ≤ 12
  pub first_day : 1 ≤ day
  pub last_day : day ≤ days_in_month (pos year) month

pub parts_of_day : (year month day : ℕ) → is_date year month day ≡ true → DayParts year month day
parts_of_day year month day h =
    let last = both_true (nat_le 1 year && nat_le year 9999 && nat_le 1 month && nat_le month 12 && nat_le 1 day) (nat_le day (days_in_month (pos year) month)) h in
    let first = both_true (nat_le 1 year && nat_le year 9999 && nat_le 1 month && nat_le month 12) (nat_le 1 day) last.0 in
    let high = both_true (nat_le 1 year && nat_le year 9999 && nat_le 1 month) (nat_le month 12) first.0 in
    let low = both_true (nat_le 1 year && nat_le year 9999) (nat_le 1 month) high.0 in
    let years = both_true (nat_le 1 year) (nat_le year 9999) low.0 in
    record {
      first_year = le_is 1 year years.0;
      first_month = le_is 1 month low.1;
      last_month = le_is month 12 high.1;
      first_day = le_is 1 day first.1;
      last_day = le_is day (days_in_month (pos year) month) last.1;
    }

december : (year month day : ℕ) → month ≡ 12 → day ≡ days_in_month (pos year) month → day ≡ 31
december year month day e last = last ∙ ap (days_in_month (pos year)) e

-- the day after, where the day and the month aren't the last
abbrev later : Bool → Bool → ℕ → ℕ → ℕ → Date
later b c year month day =
    if b then record { year = year; month = month; day = day + 1 }
    else (if c then record { year = year; month = month + 1; day = 1 }
    else record { year = year + 1; month = 1; day = 1 })

after : (year month day : ℕ) → DayParts year month day → (b c : Bool)
    → nat_lt day (days_in_month (pos year) month) ≡ b → nat_lt month 12 ≡ c
    → day_number (later b c year month day) ≡ days_from_civil (pos year) month day +ℤ pos 1
after year month day h true c within early =
    let one = h.first_day in
    omega (arith, signed_arith, days_from_civil-day (pos year) month (day + 1) day (omega arith) one)
after year month day h false true within early =
    let high = h.last_day in
    let over = lt_not day (days_in_month (pos year) month) within in
    days_from_civil-next_month (pos year) month day h.first_month (omega arith)
after year month day h false false within early =
    let high = h.last_day in
    let most = h.last_month in
    let over = lt_not day (days_in_month (pos year) month) within in
    let late = lt_not month 12 early in
    let m : month ≡ 12 = omega arith in
    let last : day ≡ days_in_month (pos year) month = omega arith in
    let d : day ≡ 31 = december year month day m last in
    rw (m, d) (days_from_civil-next_year (pos year) (pos (year + 1)) (omega (arith, signed_arith)) (omega (arith, signed_arith)))

-- the day before, where the day and the month aren't the first
abbrev sooner : Bool → Bool → ℕ → ℕ → ℕ → Date
sooner b c year month day =
    if b then record { year = year; month = month; day = day - 1 }
    else (if c then record { year = year; month = month - 1; day = days_in_month (pos year) (month - 1) }
    else record { year = year - 1; month = 12; day = 31 })

before : (year month day : ℕ) → DayParts year month day → (b c : Bool)
    → nat_lt 1 day ≡ b → nat_lt 1 month ≡ c
    → day_number (sooner b c year month day) +ℤ pos 1 ≡ days_from_civil (pos year) month day
before year month day h true c within late =
    let one = lt_is 1 day within in
    omega (arith, signed_arith, days_from_civil-day (pos year) month (day - 1) day (omega arith) (omega arith))
before year month day h false true within late =
    let low = h.first_day in
    let over = lt_not 1 day within in
    let some = lt_is 1 month late in
    let first : day ≡ 1 = omega arith in
    let back : month - 1 + 1 ≡ month = omega arith in
    let next = days_from_civil-next_month (pos year) (month - 1) (days_in_month (pos year) (month - 1)) (omega arith) refl in
    rw first (omega (arith, signed_arith, rw back at next))
before year month day h false false within late =
    let low = h.first_day in
    let least = h.first_month in
    let years = h.first_year in
    let over = lt_not 1 day within in
    let few = lt_not 1 month late in
    let m : month ≡ 1 = omega arith in
    let first : day ≡ 1 = omega arith in
    let next = days_from_civil-next_year (pos (year - 1)) (pos year) (omega (arith, signed_arith)) (omega (arith, signed_arith)) in
    rw (m, first) (omega (arith, signed_arith, next))

pub days_are_numbered : DaysAreNumbered
days_are_numbered d h =
    let parts = parts_of_day d.year d.month d.day h in (
      after d.year d.month d.day parts (nat_lt d.day (days_in_month (pos d.year) d.month)) (nat_lt d.month 12) refl refl,
      before d.year d.month d.day parts (nat_lt 1 d.day) (nat_lt 1 d.month) refl refl,
    )
