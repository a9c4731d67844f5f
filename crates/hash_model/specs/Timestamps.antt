-- A timestamp as the Ion Hash specification has it: the fields of the Ion 1.0 binary encoding ("6: Timestamp"), of
-- which all but the offset are in UTC.
use Rattle.std.specs.Prelude.{ℕ, ◌+◌, ◌-◌, ◌*◌, ◌/◌, ◌%◌, ◌^◌, ◌==◌, true, false, List, [], ◌++◌, ℤ, pos, ◌+ℤ◌, ◌-ℤ◌, int_lt, unsigned_abs, Option, Some, None, if◌then◌else◌}
use Rattle.std.specs.Option.{unwrap_or}
use Rattle.ion_values.specs.declared.time.TimeParts.{TimeParts}
use Rattle.ion_values.specs.declared.time.Precision.{Precision}
use Rattle.ion_values.specs.declared.time.Precision.TheVariants.{Year, Month, Day, Minute, Second}
use Rattle.ion_values.specs.Dates.{Date, day_after, day_before}
use Rattle.hash_model.specs.Numbers.{int_field, is_below_zero, var_int, var_uint}

-- the minutes from the beginning of the local date to the moment, as UTC counts them; the unknown offset is UTC
abbrev pub minutes_from_local_date : TimeParts → ℤ
minutes_from_local_date t = pos (t.hour * 60 + t.minute) -ℤ unwrap_or t.offset (pos 0)

abbrev pub local_date : TimeParts → Date
local_date t = record { year = t.year; month = t.month; day = t.day }

-- the date in UTC is the local one, or the one before or after it
abbrev pub utc_date : TimeParts → Date
utc_date t =
    if int_lt (minutes_from_local_date t) (pos 0) then day_before (local_date t)
    else (if int_lt (minutes_from_local_date t) (pos 1440) then local_date t else day_after (local_date t))

-- the minutes since that date began
abbrev pub utc_clock : TimeParts → ℕ
utc_clock t = unsigned_abs (
    if int_lt (minutes_from_local_date t) (pos 0) then minutes_from_local_date t +ℤ pos 1440
    else (if int_lt (minutes_from_local_date t) (pos 1440) then minutes_from_local_date t
    else minutes_from_local_date t -ℤ pos 1440))

-- the offset in minutes; a negative zero stands for the unknown one
abbrev pub offset_bytes : Option ℤ → List ℕ
offset_bytes None = var_int true 0
offset_bytes (Some minutes) = var_int (is_below_zero minutes) (unsigned_abs minutes)

-- the fraction as a decimal with its count of digits, or nothing if it has no digits
abbrev pub fraction_bytes : ℕ → ℕ → List ℕ
fraction_bytes digits nanos =
    if digits == 0 then [] else var_int true digits ++ int_field false (nanos / 10 ^ (9 - digits))

abbrev pub clock_bytes : ℕ → List ℕ
clock_bytes minutes = var_uint (minutes / 60) ++ var_uint (minutes % 60)

abbrev pub month_bytes : Date → List ℕ
month_bytes d = var_uint d.year ++ var_uint d.month

abbrev pub day_bytes : Date → List ℕ
day_bytes d = month_bytes d ++ var_uint d.day

abbrev pub minute_bytes : TimeParts → Date → List ℕ
minute_bytes t d = day_bytes d ++ clock_bytes (utc_clock t)

abbrev pub second_bytes : TimeParts → Date → List ℕ
second_bytes t d = minute_bytes t d ++ var_uint t.second ++ fraction_bytes t.digits t.nanos

-- the year and what follows it, as far as the precision goes
abbrev pub fields_to : Precision → TimeParts → Date → List ℕ
fields_to Year t d = var_uint d.year
fields_to Month t d = month_bytes d
fields_to Day t d = day_bytes d
fields_to Minute t d = minute_bytes t d
fields_to Second t d = second_bytes t d

abbrev pub timestamp_bytes : TimeParts → List ℕ
timestamp_bytes t = offset_bytes t.offset ++ fields_to t.precision t (utc_date t)
