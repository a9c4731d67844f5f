-- How a timestamp is made of its date and the milliseconds since the date began (own; the claims on timestamps don't
-- need it).
use Rattle.std.specs.Prelude.{ℕ, ◌*◌, ◌/◌, ◌%◌, pos, Some}
use Rattle.ion_values.specs.declared.time.TimeParts.{TimeParts}
use Rattle.ion_values.specs.declared.time.Precision.TheVariants.{Second}

-- the timestamp on a date in UTC, `millis` milliseconds after its beginning
abbrev pub time_of_day : ℕ → ℕ → ℕ → ℕ → TimeParts
time_of_day year month day millis = record {
  precision = Second;
  year = year;
  month = month;
  day = day;
  hour = millis / 3_600_000;
  minute = millis / 60_000 % 60;
  second = millis / 1_000 % 60;
  digits = 3;
  nanos = millis % 1_000 * 1_000_000;
  offset = Some (pos 0);
}
