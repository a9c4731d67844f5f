-- What holds of timestamps that begin at milliseconds.
use Rattle.std.specs.Prelude.{◌≡◌, ◌≤◌, ℤ, ◌-ℤ◌, int_le, unsigned_abs}
use Rattle.ion_values.specs.declared.time.TimeParts.{TimeParts}
use Rattle.ion_values.specs.Time.{instant_of}
use Rattle.ion_time.specs.Millis.{BeginsAt, IsWithinYears, nearest}

-- at most one timestamp begins at a millisecond
abbrev pub MillisNameTimes : Type 0
MillisNameTimes = (ms : ℤ) (s t : TimeParts) → BeginsAt ms s → BeginsAt ms t → s ≡ t

-- the timestamps are in the order of their milliseconds
abbrev pub MillisOrderTimes : Type 0
MillisOrderTimes =
    (a b : ℤ) (s t : TimeParts) → BeginsAt a s → BeginsAt b t → int_le (instant_of s) (instant_of t) ≡ int_le a b

-- the nearest one is of the years 0001 to 9999, and none of these is nearer
abbrev pub NoneIsNearer : Type 0
NoneIsNearer =
    (ms : ℤ)
    → IsWithinYears (nearest ms)
    × ((other : ℤ) → IsWithinYears other → unsigned_abs (nearest ms -ℤ ms) ≤ unsigned_abs (other -ℤ ms))
