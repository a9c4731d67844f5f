-- Milliseconds and the timestamps that begin at them (own), at the ends of the years 0001 to 9999 and round 1970.
use Rattle.std.proofs.Common.{◌≡◌, ℕ, ◌*◌, false, pos, negsuc, refl, arith}
use Rattle.std.specs.Prelude.{Some}
use Rattle.jiff_core.specs.Calendar.{days_from_civil}
use Rattle.jiff_core.proofs.CalendarLemmas.{days_from_civil-day_count}
use Rattle.jiff_core.proofs.MarchLemmas.{day_count-early, day_count-late}
use Rattle.jiff_core.proofs.SignedLemmas.{signed_arith}
use Rattle.ion_values.proofs.Years.{first_day, day_after_last}
use Rattle.ion_values.specs.declared.time.TimeParts.{TimeParts}
use Rattle.ion_values.specs.declared.time.Precision.TheVariants.{Second}
use Rattle.ion_time.specs.Millis.{BeginsAt, is_within_years, nearest}
use Rattle.ion_time.proofs.Begins.{on_day}

abbrev utc : ℕ → ℕ → ℕ → ℕ → ℕ → ℕ → ℕ → TimeParts
utc year month day hour minute second millis = record {
  precision = Second;
  year = year;
  month = month;
  day = day;
  hour = hour;
  minute = minute;
  second = second;
  digits = 3;
  nanos = millis * 1_000_000;
  offset = Some (pos 0);
}

in_2020 : days_from_civil (pos 2020) 1 1 ≡ pos 18_262
in_2020 =
    omega (arith, signed_arith, days_from_civil-day_count (pos 2020) 1 1, day_count-early (pos 2020) 12_019 1 1 refl (omega arith) (omega arith) (omega arith))

in_1970 : days_from_civil (pos 1970) 1 1 ≡ pos 0
in_1970 =
    omega (arith, signed_arith, days_from_civil-day_count (pos 1970) 1 1, day_count-early (pos 1970) 11_969 1 1 refl (omega arith) (omega arith) (omega arith))

in_1969 : days_from_civil (pos 1969) 12 31 ≡ negsuc 0
in_1969 =
    omega (arith, signed_arith, days_from_civil-day_count (pos 1969) 12 31, day_count-late (pos 1969) 11_969 12 31 refl (omega arith) (omega arith) (omega arith))

in_9999 : days_from_civil (pos 9999) 12 31 ≡ pos 2_932_896
in_9999 =
    omega (arith, signed_arith, days_from_civil-day_count (pos 9999) 12 31, day_count-late (pos 9999) 19_999 12 31 refl (omega arith) (omega arith) (omega arith))

-- 2020-01-01T00:00:00.000Z
begin_of_2020 : BeginsAt (pos 1_577_836_800_000) (utc 2020 1 1 0 0 0 0)
begin_of_2020 =
    on_day (pos 18_262) 2020 1 1 0 in_2020 ((omega (arith, signed_arith), omega (arith, signed_arith)), (omega arith, omega arith), (omega arith, omega arith))
    (omega arith) (omega arith) (omega arith) (omega (arith, signed_arith)) (omega (arith, signed_arith))

-- 1970-01-01T00:00:00.001Z
behind_1970 : BeginsAt (pos 1) (utc 1970 1 1 0 0 0 1)
behind_1970 =
    on_day (pos 0) 1970 1 1 1 in_1970 ((omega (arith, signed_arith), omega (arith, signed_arith)), (omega arith, omega arith), (omega arith, omega arith))
    (omega arith) (omega arith) (omega arith) (omega (arith, signed_arith)) (omega (arith, signed_arith))

-- 1969-12-31T23:59:59.999Z
before_1970 : BeginsAt (negsuc 0) (utc 1969 12 31 23 59 59 999)
before_1970 =
    on_day (negsuc 0) 1969 12 31 86_399_999 in_1969 ((omega (arith, signed_arith), omega (arith, signed_arith)), (omega arith, omega arith), (omega arith, omega arith))
    (omega arith) (omega arith) (omega arith) (omega (arith, signed_arith)) (omega (arith, signed_arith))

-- 0001-01-01T00:00:00.000Z
first_of_all : BeginsAt (negsuc 62_135_596_799_999) (utc 1 1 1 0 0 0 0)
first_of_all =
    on_day (negsuc 719_161) 1 1 1 0 first_day ((omega (arith, signed_arith), omega (arith, signed_arith)), (omega arith, omega arith), (omega arith, omega arith))
    (omega arith) (omega arith) (omega arith) (omega (arith, signed_arith)) (omega (arith, signed_arith))

-- 9999-12-31T23:59:59.999Z
last_of_all : BeginsAt (pos 253_402_300_799_999) (utc 9999 12 31 23 59 59 999)
last_of_all =
    on_day (pos 2_932_896) 9999 12 31 86_399_999 in_9999 ((omega (arith, signed_arith), omega (arith, signed_arith)), (omega arith, omega arith), (omega arith, omega arith))
    (omega arith) (omega arith) (omega arith) (omega (arith, signed_arith)) (omega (arith, signed_arith))

too_early : is_within_years (negsuc 62_135_596_800_000) ≡ false
too_early = rw first_day refl

too_late : is_within_years (pos 253_402_300_800_000) ≡ false
too_late = rw (first_day, day_after_last) refl

-- the greatest of the 64-bit ints
nearest_to_greatest : nearest (pos 9_223_372_036_854_775_807) ≡ pos 253_402_300_799_999
nearest_to_greatest = rw (first_day, day_after_last) refl

-- the least of them
nearest_to_least : nearest (negsuc 9_223_372_036_854_775_807) ≡ negsuc 62_135_596_799_999
nearest_to_least = rw first_day refl
