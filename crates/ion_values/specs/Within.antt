-- A value's numbers, timestamps, texts and bytes are within the ranges of their types. In a law a number is
-- unbounded, so a law about values that are written or read speaks of those within.
use Rattle.std.specs.Prelude.{ℕ, ℤ, pos, negsuc, ◌^◌, ◌&&◌, ◌==◌, Bool, true, false, nat_lt, nat_le, List, [], ◌∷◌, length, if◌then◌else◌}
use Rattle.std.specs.List.{list_all}
use Rattle.std.specs.Str.Lossy.{utf8_valid_len}
use Rattle.ion_values.specs.Decimal.{DecimalParts}
use Rattle.ion_values.specs.Time.{is_time}
use Rattle.ion_values.specs.declared.value.Value.{Value}
use Rattle.ion_values.specs.declared.value.Field.{Field}
use Rattle.ion_values.specs.declared.value.Body.{Body}
use Rattle.ion_values.specs.declared.value.Body.TheOpen.{Body-F, Field-F, Value-F}
use Rattle.ion_values.specs.declared.value.Body.TheFolds.{fold-Value, fold-Field, fold-Body}

-- from -2^127 to 2^127 - 1
abbrev pub int_within : ℤ → Bool
int_within (pos n) = nat_lt n (2 ^ 127)
int_within (negsuc n) = nat_lt n (2 ^ 127)

-- from -32,767 to 32,767
abbrev pub exponent_within : ℤ → Bool
exponent_within (pos n) = nat_le n 32767
exponent_within (negsuc n) = nat_le n 32766

abbrev pub is_zero : ℤ → Bool
is_zero (pos n) = n == 0
is_zero (negsuc n) = false

abbrev pub decimal_within : DecimalParts → Bool
decimal_within d =
    int_within d.coefficient && exponent_within d.exponent && (if d.negative_zero then is_zero d.coefficient else true)

-- well-formed UTF-8
abbrev pub text_within : List ℕ → Bool
text_within bytes = utf8_valid_len bytes == length bytes

abbrev pub bytes_within : List ℕ → Bool
bytes_within bytes = list_all (λ b. nat_lt b 256) bytes

abbrev pub all_true : List Bool → Bool
all_true [] = true
all_true (b ∷ bs) = b && all_true bs

-- one level, with each value inside already judged
abbrev pub body_step : Body-F Bool Bool Bool → Bool
body_step (Body-F.Int n) = int_within n
body_step (Body-F.Decimal d) = decimal_within d
body_step (Body-F.Timestamp t) = is_time t
body_step (Body-F.Symbol text) = text_within text
body_step (Body-F.String text) = text_within text
body_step (Body-F.Clob bytes) = bytes_within bytes
body_step (Body-F.Blob bytes) = bytes_within bytes
body_step (Body-F.List values) = all_true values
body_step (Body-F.Sexp values) = all_true values
body_step (Body-F.Struct fields) = all_true fields
body_step _ = true

abbrev pub field_step : Field-F Bool Bool Bool → Bool
field_step f = text_within f.name && f.value

abbrev pub value_step : Value-F Bool Bool Bool → Bool
value_step v = list_all text_within v.annotations && v.body

abbrev pub within : Value → Bool
within = fold-Value Bool Bool Bool body_step field_step value_step

abbrev pub field_within : Field → Bool
field_within = fold-Field Bool Bool Bool body_step field_step value_step

abbrev pub body_within : Body → Bool
body_within = fold-Body Bool Bool Bool body_step field_step value_step
