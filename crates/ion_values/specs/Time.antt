-- Timestamps (Ion 1.0, "Timestamps"): which parts there may be, and the instant that they name. The calendar is that of
-- ISO 8601, the Gregorian one.
use Rattle.std.specs.Prelude.{ℕ, ◌+◌, ◌-◌, ◌*◌, ◌%◌, ◌^◌, ◌&&◌, ◌==◌, Bool, true, nat_lt, nat_le, ℤ, pos, negsuc, ◌+ℤ◌, ◌-ℤ◌, ◌*ℤ◌, int_lt, int_le, is_none, IsTrue}
use Rattle.std.specs.Option.{unwrap_or, option_map_or}
use Rattle.std.specs.declared.option.Option.{Option}
use Rattle.jiff_core.specs.Calendar.{days_in_month, days_from_civil}
use Rattle.ion_values.specs.declared.time.TimeParts.{TimeParts}
use Rattle.ion_values.specs.declared.time.Precision.{Precision}
use Rattle.ion_values.specs.declared.time.Precision.TheVariants as p

-- the calendar has the day, and its year is one of 0001 to 9999
abbrev pub is_date : ℕ → ℕ → ℕ → Bool
is_date year month day =
    nat_le 1 year && nat_le year 9999 && nat_le 1 month && nat_le month 12 && nat_le 1 day
    && nat_le day (days_in_month (pos year) month)

-- hours from 00 to 23, minutes and seconds from 00 to 59
abbrev pub is_clock : TimeParts → Bool
is_clock t = nat_lt t.hour 24 && nat_lt t.minute 60 && nat_lt t.second 60

-- unknown, or less than a day in either direction
abbrev pub is_offset : Option ℤ → Bool
is_offset offset = option_map_or (λ minutes. int_lt (negsuc 1439) minutes && int_lt minutes (pos 1440)) offset true

-- less than a second, with no digit past the 9 or fewer that are written
abbrev pub is_fraction : ℕ → ℕ → Bool
is_fraction digits nanos = nat_le digits 9 && nat_lt nanos (10 ^ 9) && (nanos % 10 ^ (9 - digits) == 0)

-- what the precision leaves out: a month and a day are the first, the offset is unknown, all else is 0
abbrev pub lacks_fraction : TimeParts → Bool
lacks_fraction t = (t.digits == 0) && (t.nanos == 0)

abbrev pub lacks_second : TimeParts → Bool
lacks_second t = (t.second == 0) && lacks_fraction t

abbrev pub lacks_clock : TimeParts → Bool
lacks_clock t = (t.hour == 0) && (t.minute == 0) && is_none t.offset && lacks_second t

abbrev pub lacks_day : TimeParts → Bool
lacks_day t = (t.day == 1) && lacks_clock t

abbrev pub lacks_month : TimeParts → Bool
lacks_month t = (t.month == 1) && lacks_day t

abbrev pub ends_at : Precision → TimeParts → Bool
ends_at p.Year = lacks_month
ends_at p.Month = lacks_day
ends_at p.Day = lacks_clock
ends_at p.Minute = lacks_second
ends_at p.Second = λ _. true

-- minutes since 1970 in UTC, the unknown offset counted as UTC
abbrev pub utc_minutes : TimeParts → ℤ
utc_minutes t =
    (days_from_civil (pos t.year) t.month t.day *ℤ pos 1440 +ℤ pos (t.hour * 60 + t.minute))
    -ℤ unwrap_or t.offset (pos 0)

-- where the year begins, in minutes since 1970
abbrev pub start_of : ℕ → ℤ
start_of year = days_from_civil (pos year) 1 1 *ℤ pos 1440

-- the date in UTC is of the years 0001 to 9999
abbrev pub is_in_years : ℤ → Bool
is_in_years minutes = int_le (start_of 1) minutes && int_lt minutes (start_of 10000)

unfoldable pub is_time : TimeParts → Bool
is_time t =
    is_date t.year t.month t.day && is_clock t && is_offset t.offset && is_fraction t.digits t.nanos
    && ends_at t.precision t
    && is_in_years (utc_minutes t)

-- each part is in its range
abbrev pub IsTime : TimeParts → Type 0
IsTime t = IsTrue (is_time t)

-- billionths of a second since 1970 in UTC, at the moment at which the written precision begins
abbrev pub instant_of : TimeParts → ℤ
instant_of t = utc_minutes t *ℤ pos 60_000_000_000 +ℤ pos (t.second * 1_000_000_000 + t.nanos)
