-- The one spelling of a timestamp (Ion 1.0 text, "Timestamps"): as far as its precision goes, with its own digits of
-- a second.
use Rattle.std.specs.Prelude.{ℕ, ℤ, pos, negsuc, suc, zero, ◌+◌, ◌*◌, ◌/◌, ◌%◌, ◌==◌, List, [], ◌∷◌, ◌++◌, Option, Some, None, codes, if◌then◌else◌}
use Rattle.ion_values.specs.declared.time.Precision.{Precision}
use Rattle.ion_values.specs.declared.time.Precision.TheVariants.{Year, Month, Day, Minute, Second}
use Rattle.ion_values.specs.declared.time.TimeParts.{TimeParts}

-- the last digit of the number
abbrev pub digit : ℕ → ℕ
digit n = 48 + n % 10

abbrev pub two_digits : ℕ → List ℕ
two_digits n = digit (n / 10) ∷ digit n ∷ []

abbrev pub four_digits : ℕ → List ℕ
four_digits n = two_digits (n / 100) ++ two_digits n

-- the first of nine digits, as many as are counted
abbrev pub first_digits : ℕ → ℕ → List ℕ
first_digits zero n = []
first_digits (suc count) n = digit (n / 100_000_000) ∷ first_digits count (n % 100_000_000 * 10)

-- a point and the digits of the fraction, or nothing where it has no digits
abbrev pub fraction_text : ℕ → ℕ → List ℕ
fraction_text count nanos = if count == 0 then [] else 46 ∷ first_digits count nanos

-- `hh:mm` of a number of minutes
abbrev pub clock_text : ℕ → List ℕ
clock_text minutes = two_digits (minutes / 60) ++ 58 ∷ two_digits (minutes % 60)

abbrev pub offset_text : Option ℤ → List ℕ
offset_text None = codes "-00:00"
offset_text (Some (pos minutes)) = if minutes == 0 then codes "Z" else 43 ∷ clock_text minutes
offset_text (Some (negsuc less)) = 45 ∷ clock_text (suc less)

abbrev pub month_text : TimeParts → List ℕ
month_text t = four_digits t.year ++ 45 ∷ two_digits t.month

abbrev pub day_text : TimeParts → List ℕ
day_text t = month_text t ++ 45 ∷ two_digits t.day

abbrev pub minute_text : TimeParts → List ℕ
minute_text t = day_text t ++ 84 ∷ two_digits t.hour ++ 58 ∷ two_digits t.minute

abbrev pub second_text : TimeParts → List ℕ
second_text t = minute_text t ++ 58 ∷ two_digits t.second ++ fraction_text t.digits t.nanos

abbrev pub text_to : Precision → TimeParts → List ℕ
text_to Year t = four_digits t.year ++ codes "T"
text_to Month t = month_text t ++ codes "T"
text_to Day t = day_text t
text_to Minute t = minute_text t ++ offset_text t.offset
text_to Second t = second_text t ++ offset_text t.offset

abbrev pub timestamp_text : TimeParts → List ℕ
timestamp_text t = text_to t.precision t
