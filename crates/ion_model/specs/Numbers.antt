-- Numbers (Ion 1.0 text, "Integers", "Real Numbers" and "Timestamps"). A number is the run of bytes up to the next
-- stop, and is an int, a decimal or a timestamp by its shape, or is refused.
use Rattle.std.specs.Prelude.{ℕ, zero, suc, ℤ, pos, negsuc, neg_ℤ, ◌-◌, ◌-ℤ◌, ◌^◌, ◌==◌, ◌&&◌, ◌||◌, Bool, true, false, not, nat_lt, List, [], ◌∷◌, length, take, drop, slice_index, Option, Some, None, Result, Ok, Err, if◌then◌else◌}
use Rattle.std.specs.Char.{is_digit}
use Rattle.std.specs.List.{filter, list_any, position_or_len}
use Rattle.std.specs.Str.Parse.{digits_value, starts_with_minus, without_leading_sign}
use Rattle.ion_values.specs.Within.{exponent_within, is_zero}
use Rattle.ion_values.specs.declared.fault.IonKind.{IonKind}
use Rattle.ion_values.specs.declared.fault.IonKind.TheVariants as kind
use Rattle.ion_model.specs.Timestamps.{is_dated, is_numeral, time_in}
use Rattle.ion_model.specs.declared.Scalar.{Scalar}
use Rattle.ion_model.specs.declared.Scalar.TheVariants as scalar
use Rattle.ion_model.specs.declared.Token.TheVariants as token
use Rattle.ion_model.specs.declared.Lexed.{Lexed}
use Rattle.ion_model.specs.declared.Lexed.TheVariants as lexed

-- ---- bytes

-- the marks { } [ ] ( ) , " ' and white space, one of which stands behind a number
abbrev pub stops : List ℕ
stops = 0x7B ∷ 0x7D ∷ 0x5B ∷ 0x5D ∷ 0x28 ∷ 0x29 ∷ 0x2C ∷ 0x22 ∷ 0x27 ∷ 0x20 ∷ 0x09 ∷ 0x0A ∷ 0x0B ∷ 0x0C ∷ 0x0D ∷ []

abbrev pub is_stop : ℕ → Bool
is_stop b = list_any (λ s. s == b) stops

abbrev pub is_point : ℕ → Bool
is_point b = b == 0x2E

abbrev pub is_exponent_mark : ℕ → Bool
is_exponent_mark b = b == 0x64 || b == 0x44

abbrev pub is_float_mark : ℕ → Bool
is_float_mark b = b == 0x65 || b == 0x45

-- `0` and one of two letters in front
abbrev pub has_prefix : ℕ → ℕ → List ℕ → Bool
has_prefix small large text =
    let letter = slice_index text 1 in
    (slice_index text 0 == 0x30) && (letter == small || letter == large)

-- ---- digits of a base

-- Digits with single underscores between them. `after` tells whether a digit stands just before.
unfoldable pub is_spelled : ℕ → Bool → List ℕ → Bool
is_spelled base after [] = after
is_spelled base after (b ∷ bs) =
    if b == 0x5F then after && is_spelled base false bs else is_digit b base && is_spelled base true bs

abbrev pub is_digits : ℕ → List ℕ → Bool
is_digits base text = is_spelled base false text

-- the digits without what stands between them
abbrev pub digits_in : ℕ → List ℕ → List ℕ
digits_in base text = filter (λ b. is_digit b base) text

-- up to 2^127 - 1
abbrev pub positive : ℕ → Option ℤ
positive n = if nat_lt n (2 ^ 127) then Some (pos n) else None

-- down to -2^127; the int -0 is 0
abbrev pub negative : ℕ → Option ℤ
negative zero = Some (pos 0)
negative (suc n) = if nat_lt n (2 ^ 127) then Some (negsuc n) else None

abbrev pub signed : Bool → ℕ → Option ℤ
signed true n = negative n
signed false n = positive n

-- the number that they write, with a minus before them or not, if it is within 128 bits
abbrev pub number_of : ℕ → Bool → List ℕ → Option ℤ
number_of base minus text = signed minus (digits_value base (digits_in base text))

-- ---- ints

abbrev pub whole : Option ℤ → Result Scalar IonKind
whole (Some n) = Ok (scalar.Int n)
whole None = Err kind.TooWide

abbrev pub int_in : ℕ → Bool → List ℕ → Result Scalar IonKind
int_in base minus text = if is_digits base text then whole (number_of base minus text) else Err kind.BadToken

-- ---- decimals

-- nothing, or a point and digits at will
abbrev pub is_fraction : List ℕ → Bool
is_fraction [] = true
is_fraction (point ∷ []) = true
is_fraction (point ∷ digits) = is_digits 10 digits

-- nothing, or a mark and digits with a sign at will
abbrev pub is_exponent : List ℕ → Bool
is_exponent [] = true
is_exponent (mark ∷ text) = is_numeral (without_leading_sign text)

abbrev pub with_sign : Bool → ℕ → ℤ
with_sign minus n = if minus then neg_ℤ (pos n) else pos n

-- 0 where none is written
abbrev pub exponent_of : List ℕ → ℤ
exponent_of [] = pos 0
exponent_of (mark ∷ text) = with_sign (starts_with_minus text) (digits_value 10 (digits_in 10 text))

-- an exponent within the limits
abbrev pub limited : ℤ → Option ℤ
limited exponent = if exponent_within exponent then Some exponent else None

-- the written exponent less the number of digits behind the point
abbrev pub final_exponent : List ℕ → ℕ → Option ℤ
final_exponent exponent places = limited (exponent_of exponent -ℤ pos places)

abbrev pub decimal : Bool → Option ℤ → Option ℤ → Result Scalar IonKind
decimal minus (Some coefficient) (Some exponent) =
    Ok (scalar.Decimal (record {
      coefficient = coefficient;
      exponent = exponent;
      negative_zero = minus
          && is_zero coefficient;
    }))
decimal minus _ _ = Err kind.TooWide

-- at least one digit, and no 0 before others
abbrev pub is_plain : List ℕ → Bool
is_plain [] = false
is_plain (d ∷ []) = true
is_plain (d ∷ e ∷ ds) = not (d == 0x30)

-- digits without a 0 before others
abbrev pub is_whole : List ℕ → Bool
is_whole text = is_digits 10 text && is_plain text

abbrev pub is_real : List ℕ → List ℕ → List ℕ → Bool
is_real digits fraction exponent = is_whole digits && (is_fraction fraction && is_exponent exponent)

abbrev pub is_empty : List ℕ → Bool
is_empty xs = length xs == 0

-- what stands before the exponent, and the exponent; the coefficient is the digits without the point
abbrev pub mantissa_in : Bool → List ℕ → List ℕ → Result Scalar IonKind
mantissa_in minus mantissa exponent =
    let point = position_or_len is_point mantissa in
    let fraction = drop point mantissa in
    if not (is_real (take point mantissa) fraction exponent) then Err kind.BadToken
    else (if is_empty fraction && is_empty exponent then whole (number_of 10 minus mantissa)
    else decimal minus (number_of 10 minus mantissa) (final_exponent exponent (length (digits_in 10 fraction))))

-- an int or a decimal in decimal digits
abbrev pub plain_in : Bool → List ℕ → Result Scalar IonKind
plain_in minus text =
    let mark = position_or_len is_exponent_mark text in
    mantissa_in minus (take mark text) (drop mark text)

-- ---- what a run is

-- behind its minus, where it has one
abbrev pub unsigned_in : Bool → List ℕ → Result Scalar IonKind
unsigned_in minus text =
    if has_prefix 0x78 0x58 text then int_in 16 minus (drop 2 text)
    else (if list_any is_float_mark text then Err kind.FloatRefused
    else (if has_prefix 0x62 0x42 text then int_in 2 minus (drop 2 text)
    else (if not minus && is_dated text then time_in text
    else plain_in minus text)))

abbrev pub number_in : List ℕ → Result Scalar IonKind
number_in run = if starts_with_minus run then unsigned_in true (drop 1 run) else unsigned_in false run

abbrev pub number_token : ℕ → Result Scalar IonKind → Lexed
number_token more (Ok number) = lexed.Token (token.Scalar number) more
number_token more (Err why) = lexed.Refused why

-- the number in front, in a text that begins with a digit, or with a minus and a digit
unfoldable pub lex_number : List ℕ → Lexed
lex_number bytes =
    let length = position_or_len is_stop bytes in
    number_token (length - 1) (number_in (take length bytes))
