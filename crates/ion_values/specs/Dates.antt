-- Days of the calendar (ISO 8601, the Gregorian one): their numbers, and the days before and after them.
use Rattle.std.specs.Prelude.{ℕ, ◌+◌, ◌-◌, ◌≡◌, nat_lt, ℤ, pos, ◌+ℤ◌, IsTrue, if◌then◌else◌}
use Rattle.jiff_core.specs.Calendar.{days_from_civil, days_in_month}
use Rattle.ion_values.specs.Time.{is_date}

pub record Date : Type 0 where
  pub year : ℕ
  pub month : ℕ
  pub day : ℕ

-- the number of a day, 0 being 1 January 1970
abbrev pub day_number : Date → ℤ
day_number d = days_from_civil (pos d.year) d.month d.day

abbrev pub day_after : Date → Date
day_after d =
    if nat_lt d.day (days_in_month (pos d.year) d.month) then record { year = d.year; month = d.month; day = d.day + 1 }
    else (if nat_lt d.month 12 then record { year = d.year; month = d.month + 1; day = 1 }
    else record { year = d.year + 1; month = 1; day = 1 })

abbrev pub day_before : Date → Date
day_before d =
    if nat_lt 1 d.day then record { year = d.year; month = d.month; day = d.day - 1 }
    else (if nat_lt 1 d.month
    then record { year = d.year; month = d.month - 1; day = days_in_month (pos d.year) (d.month - 1) }
    else record { year = d.year - 1; month = 12; day = 31 })

-- the calendar has the day, in the years 0001 to 9999
abbrev pub IsDay : Date → Type 0
IsDay d = IsTrue (is_date d.year d.month d.day)

-- the day after a day has the next number, and the day before it the one before
abbrev pub DaysAreNumbered : Type 0
DaysAreNumbered =
    (d : Date) → IsDay d → (day_number (day_after d) ≡ day_number d +ℤ pos 1)
    × (day_number (day_before d) +ℤ pos 1 ≡ day_number d)
