-- Milliseconds since 1970 in UTC, and the timestamps that begin at them (Ion 1.0, "Timestamps").
use Rattle.std.specs.Prelude.{◌≡◌, ℕ, ℤ, pos, ◌-ℤ◌, ◌*ℤ◌, int_lt, int_le, Bool, ◌&&◌, IsTrue, Some, if◌then◌else◌}
use Rattle.ion_values.specs.declared.time.TimeParts.{TimeParts}
use Rattle.ion_values.specs.declared.time.Precision.TheVariants.{Second}
use Rattle.ion_values.specs.Time.{IsTime, instant_of, start_of}

-- the timestamp goes to the second with three digits behind it, stands in UTC, and begins at this millisecond
pub record BeginsAt (ms : ℤ) (t : TimeParts) : Type 0 where
  pub is_time : IsTime t
  pub precision : t.precision ≡ Second
  pub digits : t.digits ≡ 3
  pub offset : t.offset ≡ Some (pos 0)
  pub instant : instant_of t ≡ ms *ℤ pos 1_000_000

-- the millisecond with which a year begins, in UTC
abbrev pub first_milli : ℕ → ℤ
first_milli year = start_of year *ℤ pos 60_000

-- it is of the years 0001 to 9999
abbrev pub is_within_years : ℤ → Bool
is_within_years ms = int_le (first_milli 1) ms && int_lt ms (first_milli 10_000)

abbrev pub IsWithinYears : ℤ → Type 0
IsWithinYears ms = IsTrue (is_within_years ms)

-- the one of the years 0001 to 9999 that is nearest
abbrev pub nearest : ℤ → ℤ
nearest ms =
    if int_lt ms (first_milli 1) then first_milli 1
    else (if int_le (first_milli 10_000) ms then first_milli 10_000 -ℤ pos 1 else ms)
