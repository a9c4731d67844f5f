-- A moment as a timestamp in UTC (Ion 1.0 text, "Timestamps"). The calendar is that of ISO 8601, the Gregorian one.
use Rattle.std.specs.Prelude.{ℕ, zero, suc, ◌+◌, ◌/◌, ◌%◌, List, ◌++◌, codes, ℤ, pos, ◌-ℤ◌, int_le, unsigned_abs, Some, if◌then◌else◌}
use Rattle.std.specs.Int.{int_div_euclid, int_rem_euclid}
use Rattle.std.specs.Fmt.{signed_decimal}
use Rattle.jiff_core.specs.Calendar.{days_from_civil}
use Rattle.ion_values.specs.declared.time.TimeParts.{TimeParts}
use Rattle.ion_values.specs.declared.time.Precision.TheVariants as precision
use Rattle.ion_values.specs.Time.{is_in_years}
use Rattle.ion_model.specs.Timestamp.{timestamp_text}

-- the last, counted from 1, of those that have begun on the day
abbrev pub last_begun : (ℕ → ℤ) → ℤ → ℕ → ℕ
last_begun start day zero = 0
last_begun start day (suc n) = if int_le (start (suc n)) day then suc n else last_begun start day n

-- of the years 1 to 9999
unfoldable pub year_of : ℤ → ℕ
year_of day = last_begun (λ year. days_from_civil (pos year) 1 1) day 9999

-- of the months of that year
unfoldable pub month_of : ℤ → ℕ
month_of day = last_begun (λ month. days_from_civil (pos (year_of day)) month 1) day 12

-- the place in that month, from 1
unfoldable pub day_of : ℤ → ℕ
day_of day = unsigned_abs (day -ℤ days_from_civil (pos (year_of day)) (month_of day) 1) + 1

-- a number of nanoseconds after the beginning of a date
abbrev pub time_at : ℕ → ℕ → ℕ → ℕ → TimeParts
time_at year month day nanos = record {
  precision = precision.Second;
  year = year;
  month = month;
  day = day;
  hour = nanos / 3_600_000_000_000;
  minute = nanos / 60_000_000_000 % 60;
  second = nanos / 1_000_000_000 % 60;
  digits = 9;
  nanos = nanos % 1_000_000_000;
  offset = Some (pos 0);
}

-- of the day of this number, 0 being 1 January 1970
abbrev pub time_on : ℤ → ℕ → TimeParts
time_on day = time_at (year_of day) (month_of day) (day_of day)

-- of a moment, in billionths of a second since 1970: the number of its day, and how far it is behind the beginning of
-- that day
abbrev pub day_number : ℤ → ℤ
day_number moment = int_div_euclid moment (pos 86_400_000_000_000)

abbrev pub nanos_of_day : ℤ → ℕ
nanos_of_day moment = unsigned_abs (int_rem_euclid moment (pos 86_400_000_000_000))

-- as a timestamp with nine digits
abbrev pub utc_time : ℤ → TimeParts
utc_time moment = time_on (day_number moment) (nanos_of_day moment)

-- whole minutes since 1970
abbrev pub minutes_of : ℤ → ℤ
minutes_of moment = int_div_euclid moment (pos 60_000_000_000)

-- outside the years 1 to 9999, where there are no timestamps, the annotated number
abbrev pub moment_text : ℤ → List ℕ
moment_text moment =
    if is_in_years (minutes_of moment) then timestamp_text (utc_time moment)
    else codes "moment::" ++ signed_decimal moment
