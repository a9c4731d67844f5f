-- Timestamps (Ion 1.0 text, "Timestamps"): their shapes, and the moments that they name.
use Rattle.std.specs.Prelude.{ℕ, ℤ, pos, neg_ℤ, ◌+◌, ◌-◌, ◌*◌, ◌==◌, ◌&&◌, ◌||◌, Bool, true, not, nat_lt, List, [], ◌∷◌, length, take, drop, slice_index, Option, Some, None, Result, Ok, Err, codes, if◌then◌else◌}
use Rattle.std.specs.Char.{is_ascii_digit}
use Rattle.std.specs.Cmp.Lexicographic.{pointwise}
use Rattle.std.specs.List.{list_all, prefix_len}
use Rattle.ion_values.specs.Time.{is_time}
use Rattle.ion_values.specs.declared.fault.IonKind.{IonKind}
use Rattle.ion_values.specs.declared.fault.IonKind.TheVariants as kind
use Rattle.ion_values.specs.declared.time.Precision.TheVariants as precision
use Rattle.ion_values.specs.declared.time.TimeParts.{TimeParts}
use Rattle.ion_model.specs.declared.Scalar.{Scalar}
use Rattle.ion_model.specs.declared.Scalar.TheVariants as scalar

-- ---- shapes

-- in a shape 0 stands for a digit, and any other byte for itself
abbrev pub stands_for : ℕ → ℕ → Bool
stands_for b s = if s == 0x30 then is_ascii_digit b else b == s

unfoldable pub has_shape : List ℕ → List ℕ → Bool
has_shape text shape = pointwise stands_for text shape

-- four digits with `T` or `-` behind them, as each timestamp begins and no other number does
abbrev pub is_dated : List ℕ → Bool
is_dated run =
    let mark = slice_index run 4 in
    (prefix_len is_ascii_digit run == 4) && (mark == 0x54 || mark == 0x2D)

-- a day, with `T` at will
abbrev pub is_day : List ℕ → Bool
is_day run = has_shape run (codes "0000-00-00") || has_shape run (codes "0000-00-00T")

-- one digit or more, and nothing else
abbrev pub is_numeral : List ℕ → Bool
is_numeral text = not (length text == 0) && list_all is_ascii_digit text

-- nothing, or a point and digits
abbrev pub is_fraction : List ℕ → Bool
is_fraction [] = true
is_fraction (point ∷ digits) = point == 0x2E && is_numeral digits

-- a day and a clock with seconds
unfoldable pub has_seconds : List ℕ → Bool
has_seconds run = has_shape (take 19 run) (codes "0000-00-00T00:00:00") && is_fraction (drop 19 run)

unfoldable pub is_offset : List ℕ → Bool
is_offset text = has_shape text (codes "Z") || (has_shape text (codes "+00:00") || has_shape text (codes "-00:00"))

-- how many bytes stand before the offset, which is `Z` or has six bytes
abbrev pub offset_at : List ℕ → ℕ
offset_at run = length run - (if slice_index run (length run - 1) == 0x5A then 1 else 6)

-- ---- numbers by their places

-- the digit at a place, 0 where none stands there
abbrev pub digit_of : ℕ → ℕ
digit_of b = if is_ascii_digit b then b - 0x30 else 0

abbrev pub two_at : List ℕ → ℕ → ℕ
two_at text at = digit_of (slice_index text at) * 10 + digit_of (slice_index text (at + 1))

abbrev pub four_at : List ℕ → ℕ → ℕ
four_at text at = two_at text at * 100 + two_at text (at + 2)

-- the billionths of a second that up to nine digits write
abbrev pub nanos_of : List ℕ → ℕ
nanos_of digits = (four_at digits 0 * 10_000 + four_at digits 4) * 10 + digit_of (slice_index digits 8)

-- the distance from UTC in minutes, None where it is unknown
abbrev pub offset_of : List ℕ → Option ℤ
offset_of text =
    let minutes = two_at text 1 * 60 + two_at text 4 in
    if slice_index text 0 == 0x2D then (if minutes == 0 then None else Some (neg_ℤ (pos minutes)))
    else Some (pos minutes)

-- ---- parts, as far as the precision goes

abbrev pub year_parts : List ℕ → TimeParts
year_parts run = record {
  precision = precision.Year;
  year = four_at run 0;
  month = 1;
  day = 1;
  hour = 0;
  minute = 0;
  second = 0;
  digits = 0;
  nanos = 0;
  offset = None;
}

abbrev pub month_parts : List ℕ → TimeParts
month_parts run = record (year_parts run) { precision = precision.Month; month = two_at run 5 }

abbrev pub day_parts : List ℕ → TimeParts
day_parts run = record (month_parts run) { precision = precision.Day; day = two_at run 8 }

unfoldable pub minute_parts : List ℕ → List ℕ → TimeParts
minute_parts run offset =
    record (day_parts run) {
      precision = precision.Minute;
      hour = two_at run 11;
      minute = two_at run 14;
      offset = offset_of offset;
    }

-- with the digits of a fraction
unfoldable pub second_parts : List ℕ → List ℕ → List ℕ → TimeParts
second_parts run digits offset =
    record (minute_parts run offset) {
      precision = precision.Second;
      second = two_at run 17;
      digits = length digits;
      nanos = nanos_of digits;
    }

-- ---- what a run is

-- the timestamp of these parts, each in its range
abbrev pub moment : TimeParts → Result Scalar IonKind
moment parts = if is_time parts then Ok (scalar.Timestamp parts) else Err kind.BadTimestamp

-- an offset has minutes from 00 to 59 too
unfoldable pub offset_moment : List ℕ → TimeParts → Result Scalar IonKind
offset_moment offset parts = if nat_lt (two_at offset 4) 60 then moment parts else Err kind.BadTimestamp

-- with a clock: the run before its offset, and the offset
abbrev pub clock_in : List ℕ → List ℕ → Result Scalar IonKind
clock_in run offset =
    if not (is_offset offset) then Err kind.BadToken
    else (if has_shape run (codes "0000-00-00T00:00") then offset_moment offset (minute_parts run offset)
    else (if not (has_seconds run) then Err kind.BadToken
    else (if nat_lt 9 (length (drop 20 run)) then Err kind.TooWide
    else offset_moment offset (second_parts run (drop 20 run) offset))))

unfoldable pub time_in : List ℕ → Result Scalar IonKind
time_in run =
    if has_shape run (codes "0000T") then moment (year_parts run)
    else (if has_shape run (codes "0000-00T") then moment (month_parts run)
    else (if is_day run then moment (day_parts run)
    else clock_in (take (offset_at run) run) (drop (offset_at run) run)))
