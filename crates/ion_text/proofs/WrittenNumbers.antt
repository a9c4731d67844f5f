-- Ints and decimals are read back (Ion 1.0, "Text encoding", integers and decimals).
use Rattle.std.proofs.Common.{◌≡◌, ◌==◌, ◌&&◌, ◌||◌, ◌+◌, ◌%◌, ◌^◌, ◌<◌, ◌≤◌, ℕ, suc, ℤ, pos, negsuc, ◌-ℤ◌, Bool, true, false, not, nat_eq, List, [], ◌∷◌, ◌++◌, length, slice_index, Some, None, Ok, inl, inr, if◌then◌else◌, refl, ap, sym, ◌∙◌, arith}
use Rattle.std.specs.Char.{digit_value, is_ascii_digit, is_digit}
use Rattle.std.specs.Fmt.{decimal, signed_decimal}
use Rattle.std.specs.List.{list_all, position_or_len, prefix_len}
use Rattle.std.specs.Str.{byte}
use Rattle.std.specs.Str.Parse.{AllDigits, digits_value, starts_with_minus, without_leading_sign}
use Rattle.std.proofs.lemmas.Bool.{and_parts, and_from, and_right, both_ways, cond-false, cond-true, or_cases, eqb-true, leb-true, ltb-true, ne_eqb, cases_eq, not_from_false, or_left}
use Rattle.std.proofs.lemmas.Bool.Decides.{nat_tests}
use Rattle.std.proofs.lemmas.Fmt.{decimal_by_steps_wide, decimal_is_IsNumeral_wide}
use Rattle.std.proofs.lemmas.Int.{ints}
use Rattle.std.proofs.lemmas.List.Folds.{list_all-append}
use Rattle.std.proofs.lemmas.List.{take_all, drop_all, take_at, drop_at, append-nil, get_or-append-add}
use Rattle.ion_values.specs.Decimal.{DecimalParts}
use Rattle.ion_values.specs.Within.{int_within, decimal_within, exponent_within, is_zero}
use Rattle.ion_model.specs.Numbers.{is_plain, signed}
use Rattle.ion_model.specs.Write.{decimal_text}
use Rattle.ion_model.specs.Numbers as numbers
use Rattle.ion_model.specs.Numbers.{digits_in, is_digits, is_exponent_mark, is_point, is_spelled, is_whole, mantissa_in, number_in, number_of, plain_in, unsigned_in}
use Rattle.ion_model.specs.Timestamps.{is_dated, is_numeral}
use Rattle.ion_model.specs.declared.Scalar.TheVariants as scalar
use Rattle.ion_model.specs.declared.Token.TheVariants as token
use Rattle.ion_text.specs.RoundTrip.{ReadsAs}
use Rattle.ion_text.proofs.WrittenRuns.{differs, pass_behind, first_behind, is_written, none_first, number_read, starts, unsigned_is}

-- ---- digits as they are written

-- the digits of n without a 0 before others
record Digits (n : ℕ) (ds : List ℕ) : Type 0 where
  pub digits : list_all is_ascii_digit ds ≡ true
  pub plain : is_plain ds ≡ true
  pub value : digits_value 10 ds ≡ n

a_digit : (c : ℕ) → digit_value c < 10 → is_ascii_digit c ≡ true
a_digit c h = grind (arith, nat_tests)

all_digits : (ds : List ℕ) → AllDigits 10 ds → list_all is_ascii_digit ds ≡ true
all_digits [] h = refl
all_digits (c ∷ cs) h = and_from (is_ascii_digit c) (list_all is_ascii_digit cs) (a_digit c h.0) (all_digits cs h.1)

-- no 0 stands in front
abbrev leads : List ℕ → Bool
leads [] = false
leads (d ∷ ds) = not (d == 48)

plain_more : (ds : List ℕ) (d : ℕ) → leads ds ≡ true → is_plain (ds ++ d ∷ []) ≡ true
plain_more [] d h = refl
plain_more (c ∷ []) d h = h
plain_more (c ∷ e ∷ ds) d h = h

leads_more : (ds : List ℕ) (d : ℕ) → leads ds ≡ true → leads (ds ++ d ∷ []) ≡ true
leads_more [] d h = absurd (both_ways false refl h)
leads_more (c ∷ ds) d h = h

decimal_plain : (n : ℕ) → n < 10 ^ 64 → is_plain (decimal n) ≡ true
decimal_plain n h =
    (decimal_by_steps_wide (λ m ds. (is_plain ds ≡ true) × (0 < m → leads ds ≡ true))
    (λ m small. (refl, λ some. not_from_false (48 + m == 48) (ne_eqb (48 + m) 48 (λ e. omega arith))))
    (λ m ds large before.
    let lead : leads ds ≡ true = before.1 (omega arith) in
    (plain_more ds (48 + m % 10) lead, λ some. leads_more ds (48 + m % 10) lead))
    n h).0

written_digits : (n : ℕ) → n < 10 ^ 64 → Digits n (decimal n)
written_digits n h =
    let numeral = decimal_is_IsNumeral_wide n h in
    record { digits = all_digits (decimal n) numeral.0.1; plain = decimal_plain n h; value = numeral.1 }

-- ---- what digits are to the reader

a_decimal_digit : (b : ℕ) → is_ascii_digit b ≡ true → is_digit b 10 ≡ true
a_decimal_digit b h = grind (arith, nat_tests)

no_underscore : (b : ℕ) → is_ascii_digit b ≡ true → (b == 0x5F) ≡ false
no_underscore b h = grind (arith, nat_tests)

no_mark : (b : ℕ) → is_ascii_digit b ≡ true → is_exponent_mark b ≡ false
no_mark b h = grind (arith, nat_tests)

no_point : (b : ℕ) → is_ascii_digit b ≡ true → is_point b ≡ false
no_point b h = grind (arith, nat_tests)

digit_written : (b : ℕ) → is_ascii_digit b ≡ true → is_written b ≡ true
digit_written b h = or_left (is_ascii_digit b) _ h

all_written : (ds : List ℕ) → list_all is_ascii_digit ds ≡ true → list_all is_written ds ≡ true
all_written [] h = refl
all_written (d ∷ ds) h =
    let both = and_parts (is_ascii_digit d) (list_all is_ascii_digit ds) h in
    and_from (is_written d) (list_all is_written ds) (digit_written d both.0) (all_written ds both.1)

spelled_on : (ds : List ℕ) → list_all is_ascii_digit ds ≡ true → is_spelled 10 true ds ≡ true
unfolding is_spelled
spelled_on [] h = refl
spelled_on (d ∷ ds) h =
    let both = and_parts (is_ascii_digit d) (list_all is_ascii_digit ds) h in
    rw (no_underscore d both.0, a_decimal_digit d both.0) (spelled_on ds both.1)

spelled : (ds : List ℕ) → list_all is_ascii_digit ds ≡ true → is_plain ds ≡ true → is_digits 10 ds ≡ true
unfolding is_spelled
spelled [] h k = absurd (both_ways false refl k)
spelled (d ∷ ds) h k =
    let both = and_parts (is_ascii_digit d) (list_all is_ascii_digit ds) h in
    rw (no_underscore d both.0, a_decimal_digit d both.0) (spelled_on ds both.1)

-- nothing stands between them
digits_kept : (ds : List ℕ) → list_all is_ascii_digit ds ≡ true → digits_in 10 ds ≡ ds
digits_kept [] h = refl
digits_kept (d ∷ ds) h =
    let both = and_parts (is_ascii_digit d) (list_all is_ascii_digit ds) h in
    rw (a_decimal_digit d both.0) (ap (λ xs. d ∷ xs) (digits_kept ds both.1))

-- and no other byte in front
front_apart : (ds : List ℕ) (c : ℕ) → list_all is_ascii_digit ds ≡ true → is_ascii_digit c ≡ false → nat_eq 0 c ≡ false → (slice_index ds 0 == c) ≡ false
front_apart [] c h k none = none
front_apart (d ∷ ds) c h k none = differs is_ascii_digit d c (and_parts (is_ascii_digit d) (list_all is_ascii_digit ds) h).0 k

-- no date begins with digits and such a byte behind them
undated :
    (ds ys : List ℕ) → list_all is_ascii_digit ds ≡ true → prefix_len is_ascii_digit ys ≡ 0 → (slice_index ys 0 == 0x54 || slice_index ys 0 == 0x2D) ≡ false →
    is_dated (ds ++ ys) ≡ false
undated ds ys h end other =
    let len : prefix_len is_ascii_digit (ds ++ ys) ≡ length ds = pass_behind is_ascii_digit is_ascii_digit (λ b k. k) ds ys h end in
    elim (cases_eq (length ds) 4) [
      | inl four ↦
          let mark : slice_index (ds ++ ys) 4 ≡ slice_index ys 0 = ap (slice_index (ds ++ ys)) (omega arith) ∙ get_or-append-add ds ys 0 0 in
          rw (len, mark, other) (and_right (length ds == 4) false refl)
      | inr other ↦ rw (len, ne_eqb (length ds) 4 other) refl
    ]

number_is : (minus : Bool) (n : ℕ) (ds : List ℕ) → Digits n ds → number_of 10 minus ds ≡ signed minus n
number_is minus n ds h = rw (digits_kept ds h.digits, h.value) refl

not_empty : (b : ℕ) (z : List ℕ) → numbers.is_empty (b ∷ z) ≡ false
not_empty b z = ne_eqb (length (b ∷ z)) 0 (λ e. omega arith)

mantissa_is :
    (minus : Bool) (n : ℕ) (ds exponent : List ℕ) → Digits n ds → numbers.is_exponent exponent ≡ true →
    mantissa_in minus ds exponent
    ≡ (if numbers.is_empty exponent then numbers.whole (signed minus n) else numbers.decimal minus (signed minus n) (numbers.final_exponent exponent 0))
mantissa_is minus n ds exponent h k =
    let point : position_or_len is_point ds ≡ length ds = none_first is_point is_ascii_digit no_point ds h.digits in
    let all : length ds ≤ length ds = omega arith in
    rw (point, take_all (length ds) ds all, drop_all (length ds) ds all, spelled ds h.digits h.plain, h.plain, k, number_is minus n ds h) refl

plain_int : (minus : Bool) (n : ℕ) (ds : List ℕ) → Digits n ds → plain_in minus ds ≡ numbers.whole (signed minus n)
plain_int minus n ds h =
    let mark : position_or_len is_exponent_mark ds ≡ length ds = none_first is_exponent_mark is_ascii_digit no_mark ds h.digits in
    let all : length ds ≤ length ds = omega arith in
    rw (mark, take_all (length ds) ds all, drop_all (length ds) ds all) (mantissa_is minus n ds [] h refl)

plain_decimal :
    (minus : Bool) (n : ℕ) (ds exponent : List ℕ) → Digits n ds → is_numeral (without_leading_sign exponent) ≡ true →
    plain_in minus (ds ++ 100 ∷ exponent) ≡ numbers.decimal minus (signed minus n) (numbers.final_exponent (100 ∷ exponent) 0)
plain_decimal minus n ds exponent h k =
    let mark : position_or_len is_exponent_mark (ds ++ 100 ∷ exponent) ≡ length ds = first_behind is_exponent_mark is_ascii_digit no_mark ds (100 ∷ exponent) h.digits refl in
    rw (mark, take_at ds (100 ∷ exponent) (length ds) refl, drop_at ds (100 ∷ exponent) (length ds) refl) (mantissa_is minus n ds (100 ∷ exponent) h k
    ∙ cond-false (numbers.is_empty (100 ∷ exponent)) _ (numbers.decimal minus (signed minus n) (numbers.final_exponent (100 ∷ exponent) 0)) (not_empty 100 exponent))

-- ---- ints

no_minus : (ds : List ℕ) → list_all is_ascii_digit ds ≡ true → starts_with_minus ds ≡ false
no_minus ds h = front_apart ds 45 h refl refl

no_minus_front : (ds ys : List ℕ) → list_all is_ascii_digit ds ≡ true → is_plain ds ≡ true → starts_with_minus (ds ++ ys) ≡ false
no_minus_front [] ys h k = absurd (both_ways false refl k)
no_minus_front (d ∷ ds) ys h k = no_minus (d ∷ ds) h

unsigned_int : (minus : Bool) (n : ℕ) (ds : List ℕ) → Digits n ds → unsigned_in minus ds ≡ numbers.whole (signed minus n)
unsigned_int minus n ds h =
    let no_date : is_dated ds ≡ false = ap is_dated (sym (append-nil ds)) ∙ undated ds [] h.digits refl refl in
    unsigned_is minus ds (all_written ds h.digits) ∙ rw (no_date, and_right (not minus) false refl) (plain_int minus n ds h)

int_in : (z : ℤ) → int_within z ≡ true → number_in (signed_decimal z) ≡ Ok (scalar.Int z)
int_in (pos n) h =
    let ds = written_digits n (omega (arith, ltb-true n (2 ^ 127) h)) in
    rw (no_minus (decimal n) ds.digits) (unsigned_int false n (decimal n) ds ∙ rw h refl)
int_in (negsuc n) h =
    let ds = written_digits (suc n) (omega (arith, ltb-true n (2 ^ 127) h)) in
    unsigned_int true (suc n) (decimal (suc n)) ds ∙ rw h refl

starts_digits : (ds : List ℕ) → list_all is_ascii_digit ds ≡ true → is_plain ds ≡ true → starts ds ≡ true
starts_digits [] h k = k
starts_digits (d ∷ ds) h k = or_left (is_ascii_digit d) _ (and_parts (is_ascii_digit d) (list_all is_ascii_digit ds) h).0

starts_minus : (ds : List ℕ) → list_all is_ascii_digit ds ≡ true → is_plain ds ≡ true → starts (45 ∷ ds) ≡ true
starts_minus [] h k = k
starts_minus (d ∷ ds) h k = (and_parts (is_ascii_digit d) (list_all is_ascii_digit ds) h).0

starts_before : (text ys : List ℕ) → starts text ≡ true → starts (text ++ ys) ≡ true
starts_before [] ys h = absurd (both_ways false refl h)
starts_before (b ∷ []) ys h =
    elim (or_cases (is_ascii_digit b) (b == byte "-" && false) h) [
      | inl digit ↦ or_left (is_ascii_digit b) _ digit
      | inr minus ↦ absurd (both_ways (b == byte "-" && false) (and_right (b == byte "-") false refl) minus)
    ]
starts_before (b ∷ d ∷ z) ys h = h

int_bytes : (z : ℤ) → int_within z ≡ true → (starts (signed_decimal z) ≡ true) × (list_all is_written (signed_decimal z) ≡ true)
int_bytes (pos n) h =
    let ds = written_digits n (omega (arith, ltb-true n (2 ^ 127) h)) in
    (starts_digits (decimal n) ds.digits ds.plain, all_written (decimal n) ds.digits)
int_bytes (negsuc n) h =
    let ds = written_digits (suc n) (omega (arith, ltb-true n (2 ^ 127) h)) in
    (starts_minus (decimal (suc n)) ds.digits ds.plain, all_written (decimal (suc n)) ds.digits)

pub int_written : (z : ℤ) → int_within z ≡ true → list_all is_written (signed_decimal z) ≡ true
int_written z h = (int_bytes z h).1

-- an int of 128 bits
pub int_read : (z : ℤ) → int_within z ≡ true → ReadsAs (signed_decimal z) (token.Scalar (scalar.Int z))
int_read z h = let bytes = int_bytes z h in number_read (signed_decimal z) (scalar.Int z) bytes.0 bytes.1 (int_in z h)

-- ---- decimals

numeral : (ds : List ℕ) → list_all is_ascii_digit ds ≡ true → is_plain ds ≡ true → is_numeral ds ≡ true
numeral [] h k = k
numeral (d ∷ ds) h k = rw (not_empty d ds) h

minus_zero : (z : ℤ) → z -ℤ pos 0 ≡ z
minus_zero z = omega (arith, ints)

limited_is : (e : ℤ) → exponent_within e ≡ true → numbers.limited (e -ℤ pos 0) ≡ Some e
limited_is e h = ap numbers.limited (minus_zero e) ∙ cond-true (exponent_within e) (Some e) None h

-- an exponent with the mark before it
record Exponent (e : ℤ) (text : List ℕ) : Type 0 where
  pub numeral : is_numeral (without_leading_sign text) ≡ true
  pub value : numbers.final_exponent (100 ∷ text) 0 ≡ Some e
  pub bytes : list_all is_written text ≡ true

exponent_read : (e : ℤ) → exponent_within e ≡ true → Exponent e (signed_decimal e)
exponent_read (pos n) h =
    let ds = written_digits n (omega (arith, leb-true n 32767 h)) in
    let no_plus : (slice_index (decimal n) 0 == 43) ≡ false = front_apart (decimal n) 43 ds.digits refl refl in
    record {
      numeral = rw (no_minus (decimal n) ds.digits, no_plus) (numeral (decimal n) ds.digits ds.plain);
      value = rw (no_minus (decimal n) ds.digits, digits_kept (decimal n) ds.digits, ds.value) (limited_is (pos n) h);
      bytes = all_written (decimal n) ds.digits;
    }
exponent_read (negsuc n) h =
    let ds = written_digits (suc n) (omega (arith, leb-true n 32766 h)) in
    record {
      numeral = numeral (decimal (suc n)) ds.digits ds.plain;
      value = rw (digits_kept (decimal (suc n)) ds.digits, ds.value) (limited_is (negsuc n) h);
      bytes = all_written (decimal (suc n)) ds.digits;
    }

unsigned_decimal :
    (minus : Bool) (n : ℕ) (ds : List ℕ) (e : ℤ) (exponent : List ℕ) → Digits n ds → Exponent e exponent →
    unsigned_in minus (ds ++ 100 ∷ exponent) ≡ numbers.decimal minus (signed minus n) (Some e)
unsigned_decimal minus n ds e exponent h k =
    let no_date : is_dated (ds ++ 100 ∷ exponent) ≡ false = undated ds (100 ∷ exponent) h.digits refl refl in
    let bytes : list_all is_written (ds ++ 100 ∷ exponent) ≡ true =
    rw (list_all-append is_written ds (100 ∷ exponent), all_written ds h.digits) k.bytes in
    unsigned_is minus (ds ++ 100 ∷ exponent) bytes
    ∙ rw (no_date, and_right (not minus) false refl) (plain_decimal minus n ds exponent h k.numeral ∙ ap (numbers.decimal minus (signed minus n)) k.value)

abbrev parts : ℤ → ℤ → Bool → DecimalParts
parts c e negative_zero = record { coefficient = c; exponent = e; negative_zero = negative_zero }

-- the parts of a number that is read back from its text
record Reads (d : DecimalParts) : Type 0 where
  pub front : starts (decimal_text d) ≡ true
  pub bytes : list_all is_written (decimal_text d) ≡ true
  pub number : number_in (decimal_text d) ≡ Ok (scalar.Decimal d)

minus_zero_read : (e : ℤ) → exponent_within e ≡ true → Reads (parts (pos 0) e true)
minus_zero_read e h =
    let exponent = exponent_read e h in
    record {
      front = refl;
      bytes = exponent.bytes;
      number = unsigned_decimal true 0 (48 ∷ []) e (signed_decimal e) (record { digits = refl; plain = refl; value = refl }) exponent;
    }

positive_in : (n : ℕ) (e : ℤ) → int_within (pos n) ≡ true → exponent_within e ≡ true → number_in (decimal_text (parts (pos n) e false)) ≡ Ok (scalar.Decimal (parts (pos n) e false))
positive_in n e h k =
    let ds = written_digits n (omega (arith, ltb-true n (2 ^ 127) h)) in
    rw (no_minus_front (decimal n) (100 ∷ signed_decimal e) ds.digits ds.plain)
    (unsigned_decimal false n (decimal n) e (signed_decimal e) ds (exponent_read e k) ∙ rw h refl)

negative_in : (n : ℕ) (e : ℤ) → int_within (negsuc n) ≡ true → exponent_within e ≡ true → number_in (decimal_text (parts (negsuc n) e false)) ≡ Ok (scalar.Decimal (parts (negsuc n) e false))
negative_in n e h k =
    let ds = written_digits (suc n) (omega (arith, ltb-true n (2 ^ 127) h)) in
    unsigned_decimal true (suc n) (decimal (suc n)) e (signed_decimal e) ds (exponent_read e k) ∙ rw h refl

signed_in : (c e : ℤ) → int_within c ≡ true → exponent_within e ≡ true → number_in (decimal_text (parts c e false)) ≡ Ok (scalar.Decimal (parts c e false))
signed_in (pos n) e h k = positive_in n e h k
signed_in (negsuc n) e h k = negative_in n e h k

signed_read : (c e : ℤ) → int_within c ≡ true → exponent_within e ≡ true → Reads (parts c e false)
signed_read c e h k =
    let bytes = int_bytes c h in
    record {
      front = starts_before (signed_decimal c) (100 ∷ signed_decimal e) bytes.0;
      bytes = rw (list_all-append is_written (signed_decimal c) (100 ∷ signed_decimal e), bytes.1) (exponent_read e k).bytes;
      number = signed_in c e h k;
    }

parts_read : (c e : ℤ) (negative_zero : Bool) → int_within c ≡ true → exponent_within e ≡ true → (if negative_zero then is_zero c else true) ≡ true → Reads (parts c e negative_zero)
parts_read c e false h k none = signed_read c e h k
parts_read (pos n) e true h k none = rw (eqb-true n 0 none) (minus_zero_read e k)
parts_read (negsuc n) e true h k none = absurd (both_ways false refl none)

read_decimal : (d : DecimalParts) → decimal_within d ≡ true → Reads d
read_decimal d h =
    let all = and_parts (int_within d.coefficient && exponent_within d.exponent) (if d.negative_zero then is_zero d.coefficient else true) h in
    let both = and_parts (int_within d.coefficient) (exponent_within d.exponent) all.0 in
    parts_read d.coefficient d.exponent d.negative_zero both.0 both.1 all.1

pub decimal_written : (d : DecimalParts) → decimal_within d ≡ true → list_all is_written (decimal_text d) ≡ true
decimal_written d h = (read_decimal d h).bytes

pub decimal_read : (d : DecimalParts) → decimal_within d ≡ true → ReadsAs (decimal_text d) (token.Scalar (scalar.Decimal d))
decimal_read d h =
    let reads = read_decimal d h in
    number_read (decimal_text d) (scalar.Decimal d) reads.front reads.bytes reads.number
