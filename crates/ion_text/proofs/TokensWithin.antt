-- Each token that is read is within the ranges of its type.
use Rattle.std.proofs.Common.{◌≡◌, ◌+◌, ◌-ℤ◌, ◌*◌, ◌/◌, ◌%◌, ◌^◌, ◌<◌, ◌==◌, ◌&&◌, ◌||◌, ℕ, ℤ, pos, negsuc, zero, suc, Bool, true, false, not, nat_lt, List, [], ◌∷◌, ◌++◌, take, drop, length, Option, Some, None, option_map, Result, Ok, Err, refl, ◌∙◌, add-one, arith}
use Rattle.std.specs.Prelude.{codes, if◌then◌else◌}
use Rattle.std.specs.Char.{digit_value, is_ascii}
use Rattle.std.specs.List.{filter, list_all, list_any, position, position_or_len, prefix_len}
use Rattle.std.specs.Option.{unwrap_or, option_and_then}
use Rattle.std.specs.Str.{IsUtf8, byte, bytes_eq, is_utf8}
use Rattle.std.specs.Str.Parse.{starts_with_minus}
use Rattle.std.proofs.lemmas.Bool.{and_from, and_parts, cond_both, eq-eqb, lt-ltb, ltb-true}
use Rattle.std.proofs.lemmas.Bool.Decides.{nat_tests}
use Rattle.std.proofs.lemmas.List.Folds.{list_all-append}
use Rattle.std.proofs.lemmas.List.Quantifiers.{position-Some}
use Rattle.std.proofs.lemmas.Str.{IsUtf8-from_is_utf8, utf8_valid_len-IsUtf8}
use Rattle.ion_values.specs.Time.{is_time}
use Rattle.ion_values.specs.Within.{bytes_within, decimal_within, exponent_within, int_within, is_zero, text_within}
use Rattle.ion_values.specs.declared.fault.IonKind.{IonKind}
use Rattle.ion_values.specs.declared.fault.IonKind.TheVariants as fault
use Rattle.ion_values.specs.declared.time.TimeParts.{TimeParts}
use Rattle.ion_values.specs.declared.value.Kind.{Kind}
use Rattle.ion_model.specs.Numbers.{signed}
use Rattle.ion_model.specs.Blanks.{begins, enclosed, is_space, to_close}
use Rattle.ion_model.specs.Lex.{begins_number, lex, lex_mark, lex_run}
use Rattle.ion_model.specs.Lobs as lobs
use Rattle.base64.specs.Rfc4648.{encode}
use Rattle.ion_model.specs.Write.{base64_digits}
use Rattle.ion_model.specs.Escapes as escapes
use Rattle.ion_model.specs.Escapes.{Piece, piece}
use Rattle.ion_model.specs.Texts as texts
use Rattle.ion_model.specs.Words as words
use Rattle.ion_model.specs.Timestamps as times
use Rattle.ion_model.specs.Numbers as numbers
use Rattle.ion_model.specs.declared.Scalar.{Scalar}
use Rattle.ion_model.specs.declared.Scalar.TheVariants as scalar
use Rattle.ion_model.specs.declared.Token.{Token}
use Rattle.ion_model.specs.declared.Token.TheVariants as token
use Rattle.ion_model.specs.declared.Lexed.{Lexed}
use Rattle.ion_model.specs.declared.Lexed.TheVariants as lexed
use Rattle.ion_text.proofs.WrittenUtf8.{ascii_utf8}

-- ---- what is within

abbrev pub scalar_within : Scalar → Bool
scalar_within (scalar.Int n) = int_within n
scalar_within (scalar.Decimal d) = decimal_within d
scalar_within (scalar.Timestamp t) = is_time t
scalar_within (scalar.Clob bytes) = bytes_within bytes
scalar_within (scalar.Blob bytes) = bytes_within bytes
scalar_within _ = true

abbrev pub token_within : Token → Bool
token_within (token.Scalar s) = scalar_within s
token_within (token.Symbol text quoted) = text_within text
token_within (token.Operator text) = text_within text
token_within (token.String text) = text_within text
token_within (token.Segment text) = text_within text
token_within _ = true

abbrev pub LexedWithin : Lexed → Type 0
LexedWithin (lexed.Token t more) = token_within t ≡ true
LexedWithin _ = Unit {0}

-- ---- texts

pub text_from : (text : List ℕ) → IsUtf8 text → text_within text ≡ true
text_from text h = eq-eqb _ _ (utf8_valid_len-IsUtf8 text h)

-- ---- numbers

abbrev IntWithin : Option ℤ → Type 0
IntWithin (Some n) = int_within n ≡ true
IntWithin None = Unit {0}

abbrev ExponentWithin : Option ℤ → Type 0
ExponentWithin (Some n) = exponent_within n ≡ true
ExponentWithin None = Unit {0}

abbrev NumberWithin : Result Scalar IonKind → Type 0
NumberWithin (Ok s) = scalar_within s ≡ true
NumberWithin (Err why) = Unit {0}

signed_within : (minus : Bool) (n : ℕ) → IntWithin (signed minus n)
signed_within true zero = refl
signed_within true (suc n) = cond_both (nat_lt n (2 ^ 127)) (Some (negsuc n)) None IntWithin (λ h. h) (λ _. tt)
signed_within false n = cond_both (nat_lt n (2 ^ 127)) (Some (pos n)) None IntWithin (λ h. h) (λ _. tt)

whole_within : (n : Option ℤ) → IntWithin n → NumberWithin (numbers.whole n)
whole_within (Some n) h = h
whole_within None h = tt

int_in_within : (base : ℕ) (minus : Bool) (text : List ℕ) → NumberWithin (numbers.int_in base minus text)
int_in_within base minus text =
    cond_both (numbers.is_digits base text) _ _ NumberWithin (λ _. whole_within (numbers.number_of base minus text) (signed_within minus _)) (λ _. tt)

limited_within : (e : ℤ) → ExponentWithin (numbers.limited e)
limited_within e = cond_both (exponent_within e) (Some e) None ExponentWithin (λ h. h) (λ _. tt)

final_within : (exponent : List ℕ) (places : ℕ) → ExponentWithin (numbers.final_exponent exponent places)
final_within exponent places = limited_within (numbers.exponent_of exponent -ℤ pos places)

zero_within : (minus : Bool) (c : ℤ) → (if minus && is_zero c then is_zero c else true) ≡ true
zero_within true c = cond_both (is_zero c) (is_zero c) true (λ b. b ≡ true) (λ h. h) (λ _. refl)
zero_within false c = refl

decimal_in_within : (minus : Bool) (c e : Option ℤ) → IntWithin c → ExponentWithin e → NumberWithin (numbers.decimal minus c e)
decimal_in_within minus (Some c) (Some e) h k = and_from _ _ (and_from _ _ h k) (zero_within minus c)
decimal_in_within minus (Some c) None h k = tt
decimal_in_within minus None e h k = tt

mantissa_within : (minus : Bool) (mantissa exponent : List ℕ) → NumberWithin (numbers.mantissa_in minus mantissa exponent)
mantissa_within minus mantissa exponent =
    let point : ℕ = position_or_len numbers.is_point mantissa in
    let fraction : List ℕ = drop point mantissa in
    let n : IntWithin (numbers.number_of 10 minus mantissa) = signed_within minus _ in
    cond_both (not (numbers.is_real (take point mantissa) fraction exponent)) _ _ NumberWithin (λ _. tt)
    (λ _. cond_both (numbers.is_empty fraction && numbers.is_empty exponent) _ _ NumberWithin (λ _. whole_within _ n) (λ _. decimal_in_within minus _ _ n (final_within exponent _)))

moment_within : (t : TimeParts) → NumberWithin (times.moment t)
moment_within t = cond_both (is_time t) _ _ NumberWithin (λ h. h) (λ _. tt)

offset_moment_within : (offset : List ℕ) (t : TimeParts) → NumberWithin (times.offset_moment offset t)
unfolding times.offset_moment
offset_moment_within offset t = cond_both (nat_lt (times.two_at offset 4) 60) _ _ NumberWithin (λ _. moment_within t) (λ _. tt)

clock_within : (run offset : List ℕ) → NumberWithin (times.clock_in run offset)
clock_within run offset =
    cond_both (not (times.is_offset offset)) _ _ NumberWithin (λ _. tt)
    (λ _. cond_both (times.has_shape run (codes "0000-00-00T00:00")) _ _ NumberWithin (λ _. offset_moment_within offset _)
    (λ _. cond_both (not (times.has_seconds run)) _ _ NumberWithin (λ _. tt)
    (λ _. cond_both (nat_lt 9 (length (drop 20 run))) _ _ NumberWithin (λ _. tt) (λ _. offset_moment_within offset _))))

time_within : (run : List ℕ) → NumberWithin (times.time_in run)
unfolding times.time_in
time_within run =
    cond_both (times.has_shape run (codes "0000T")) _ _ NumberWithin (λ _. moment_within _)
    (λ _. cond_both (times.has_shape run (codes "0000-00T")) _ _ NumberWithin (λ _. moment_within _)
    (λ _. cond_both (times.is_day run) _ _ NumberWithin (λ _. moment_within _) (λ _. clock_within _ _)))

plain_within : (minus : Bool) (text : List ℕ) → NumberWithin (numbers.plain_in minus text)
plain_within minus text = let mark : ℕ = position_or_len numbers.is_exponent_mark text in mantissa_within minus (take mark text) (drop mark text)

unsigned_within : (minus : Bool) (text : List ℕ) → NumberWithin (numbers.unsigned_in minus text)
unsigned_within minus text =
    cond_both (numbers.has_prefix 0x78 0x58 text) _ _ NumberWithin (λ _. int_in_within 16 minus (drop 2 text))
    (λ _. cond_both (list_any numbers.is_float_mark text) _ _ NumberWithin (λ _. tt)
    (λ _. cond_both (numbers.has_prefix 0x62 0x42 text) _ _ NumberWithin (λ _. int_in_within 2 minus (drop 2 text))
    (λ _. cond_both (not minus && times.is_dated text) _ _ NumberWithin (λ _. time_within text) (λ _. plain_within minus text))))

number_within : (run : List ℕ) → NumberWithin (numbers.number_in run)
number_within run = cond_both (starts_with_minus run) _ _ NumberWithin (λ _. unsigned_within true (drop 1 run)) (λ _. unsigned_within false run)

number_lexed : (more : ℕ) (number : Result Scalar IonKind) → NumberWithin number → LexedWithin (numbers.number_token more number)
number_lexed more (Ok number) h = h
number_lexed more (Err why) h = tt

lex_number_within : (z : List ℕ) → LexedWithin (numbers.lex_number z)
unfolding numbers.lex_number
lex_number_within z = number_lexed _ _ (number_within (take (position_or_len numbers.is_stop z) z))

-- ---- words and operators, which are ASCII

word_ascii : (b : ℕ) → words.is_word_char b ≡ true → is_ascii b ≡ true
word_ascii b h = grind (arith, nat_tests)

first_ascii : (b : ℕ) → words.begins_word b ≡ true → is_ascii b ≡ true
first_ascii b h = grind (arith, nat_tests)

operator_ascii : (b : ℕ) → words.is_operator b ≡ true → is_ascii b ≡ true
operator_ascii b h = grind (arith, nat_tests)

-- what passes a test that ASCII alone passes is ASCII
front_ascii : (p : ℕ → Bool) → ((b : ℕ) → p b ≡ true → is_ascii b ≡ true) → (z : List ℕ) → list_all is_ascii (take (prefix_len p z) z) ≡ true
front_ascii p low [] = refl
front_ascii p low (b ∷ z) =
    let more : 1 + prefix_len p z ≡ suc (prefix_len p z) = omega arith in
    cond_both (p b) (1 + prefix_len p z) 0 (λ n. list_all is_ascii (take n (b ∷ z)) ≡ true) (λ h. rw (more, low b h) (front_ascii p low z)) (λ _. refl)

run_within : (p : ℕ → Bool) → ((b : ℕ) → p b ≡ true → is_ascii b ≡ true) → (b : ℕ) (z : List ℕ) → is_ascii b ≡ true → text_within (take (prefix_len p z + 1) (b ∷ z)) ≡ true
run_within p low b z h = rw add-one (text_from _ (ascii_utf8 (b ∷ take (prefix_len p z) z) (rw h (front_ascii p low z))))

null_lexed : (kind : Option Kind) (more : ℕ) → LexedWithin (words.null_of kind more)
null_lexed (Some kind) more = refl
null_lexed None more = tt

word_lexed : (word : List ℕ) (more : ℕ) → text_within word ≡ true → LexedWithin (words.word_of word more)
word_lexed word more h =
    cond_both (bytes_eq word (codes "null")) _ _ LexedWithin (λ _. refl)
    (λ _. cond_both (bytes_eq word (codes "true")) _ _ LexedWithin (λ _. refl)
    (λ _. cond_both (bytes_eq word (codes "false")) _ _ LexedWithin (λ _. refl)
    (λ _. cond_both (bytes_eq word (codes "nan")) _ _ LexedWithin (λ _. tt)
    (λ _. cond_both (words.is_symbol_id word) _ _ LexedWithin (λ _. tt) (λ _. h)))))

lex_word_within : (b : ℕ) (z : List ℕ) → words.begins_word b ≡ true → LexedWithin (words.lex_word (b ∷ z))
lex_word_within b z h =
    cond_both (words.is_typed (prefix_len words.is_word_char z) (b ∷ z)) _ _ LexedWithin
    (λ _. cond_both (bytes_eq (take (prefix_len words.is_word_char (drop 5 (b ∷ z))) (drop 5 (b ∷ z))) (codes "float")) _ _ LexedWithin (λ _. tt) (λ _. null_lexed _ _))
    (λ _. word_lexed _ _ (run_within words.is_word_char word_ascii b z (first_ascii b h)))

lex_operator_within : (b : ℕ) (z : List ℕ) → words.is_operator b ≡ true → LexedWithin (words.lex_operator (b ∷ z))
lex_operator_within b z h =
    cond_both (words.is_infinity (b ∷ z)) _ _ LexedWithin (λ _. tt) (λ _. run_within words.is_operator operator_ascii b z (operator_ascii b h))

-- ---- texts between quotes

text_lexed : (made : List ℕ → Token) → ((text : List ℕ) → text_within text ≡ true → token_within (made text) ≡ true) → (more : ℕ) (text : Option (List ℕ)) → LexedWithin (texts.text_token made more text)
text_lexed made same more (Some text) =
    cond_both (is_utf8 text) _ _ LexedWithin (λ h. same text (text_from text (IsUtf8-from_is_utf8 text h))) (λ _. tt)
text_lexed made same more None = tt

closed_within : (made : ℕ → Lexed) → ((len : ℕ) → LexedWithin (made len)) → (len : Option ℕ) → LexedWithin (texts.closed made len)
closed_within made h (Some len) = h len
closed_within made h None = tt

lex_text_within :
    (quotes : List ℕ) (front : ℕ → List ℕ → Option Piece) (made : List ℕ → Token) → ((text : List ℕ) → text_within text ≡ true → token_within (made text) ≡ true) → (z : List ℕ) →
    LexedWithin (texts.lex_text quotes front made z)
lex_text_within quotes front made same z = closed_within _ (λ len. text_lexed made same _ _) (texts.before quotes false (drop (length quotes) z))

lex_string_within : (z : List ℕ) → LexedWithin (texts.lex_string z)
unfolding texts.lex_string
lex_string_within z = lex_text_within (codes "\"") (texts.short escapes.text_escape) token.String (λ text h. h) z

lex_quoted_within : (z : List ℕ) → LexedWithin (texts.lex_quoted z)
unfolding texts.lex_quoted
lex_quoted_within z = lex_text_within (codes "'") (texts.short escapes.text_escape) (λ text. token.Symbol text true) (λ text h. h) z

lex_segment_within : (z : List ℕ) → LexedWithin (texts.lex_segment z)
unfolding texts.lex_segment
lex_segment_within z = lex_text_within (codes "'''") (texts.long escapes.text_escape) token.Segment (λ text h. h) z

-- ---- clobs

abbrev PieceWithin : Option Piece → Type 0
PieceWithin (Some p) = bytes_within p.gives ≡ true
PieceWithin None = Unit {0}

abbrev BytesWithin : Option (List ℕ) → Type 0
BytesWithin (Some bytes) = bytes_within bytes ≡ true
BytesWithin None = Unit {0}

before_rest : (front : List ℕ) (rest : Option (List ℕ)) → bytes_within front ≡ true → BytesWithin rest → BytesWithin (option_map (λ bytes. front ++ bytes) rest)
before_rest front None h k = tt
before_rest front (Some bytes) h k = rw (list_all-append (λ b. nat_lt b 256) front bytes, h, k) refl

with_piece_within : (rest : ℕ → Option (List ℕ)) (p : Option Piece) → PieceWithin p → ((more : ℕ) → BytesWithin (rest more)) → BytesWithin (texts.with_piece rest p)
with_piece_within rest None h k = tt
with_piece_within rest (Some p) h k = before_rest p.gives (rest p.more) h (k p.more)

pieces_within :
    (may : ℕ → Bool) (front : ℕ → List ℕ → Option Piece) → ((b : ℕ) (z : List ℕ) → may b ≡ true → PieceWithin (front b z)) → (left : ℕ) (z : List ℕ) → list_all may z ≡ true →
    BytesWithin (texts.pieces front left z)
pieces_within may front each left [] h = refl
pieces_within may front each (suc left) (b ∷ z) h = pieces_within may front each left z (and_parts (may b) (list_all may z) h).1
pieces_within may front each zero (b ∷ z) h =
    let both = and_parts (may b) (list_all may z) h in
    with_piece_within _ (front b z) (each b z both.0) (λ more. pieces_within may front each more z both.1)

low_byte : (b : ℕ) → is_ascii b ≡ true → nat_lt b 256 ≡ true
low_byte b h = grind (arith, nat_tests)

one_low : (more b : ℕ) → nat_lt b 256 ≡ true → PieceWithin (Some (piece more (b ∷ [])))
one_low more b h = rw h refl

-- an escape gives a byte, or nothing
abbrev LetterWithin : Option ℕ → Type 0
LetterWithin (Some c) = nat_lt c 256 ≡ true
LetterWithin None = Unit {0}

mark_low : (e : ℕ) → (e == byte "\"" || e == byte "'" || e == byte "?" || e == byte "\\" || e == byte "/") ≡ true → nat_lt e 256 ≡ true
mark_low e h = grind (arith, nat_tests)

letter_within : (e : ℕ) → LetterWithin (escapes.letter e)
letter_within e =
    cond_both (e == byte "a") _ _ LetterWithin (λ _. refl)
    (λ _. cond_both (e == byte "b") _ _ LetterWithin (λ _. refl)
    (λ _. cond_both (e == byte "t") _ _ LetterWithin (λ _. refl)
    (λ _. cond_both (e == byte "n") _ _ LetterWithin (λ _. refl)
    (λ _. cond_both (e == byte "f") _ _ LetterWithin (λ _. refl)
    (λ _. cond_both (e == byte "r") _ _ LetterWithin (λ _. refl)
    (λ _. cond_both (e == byte "v") _ _ LetterWithin (λ _. refl)
    (λ _. cond_both (e == byte "0") _ _ LetterWithin (λ _. refl)
    (λ _. cond_both (e == byte "\"" || e == byte "'" || e == byte "?" || e == byte "\\" || e == byte "/") _ _ LetterWithin (mark_low e) (λ _. tt)))))))))

letter_piece : (c : Option ℕ) → LetterWithin c → PieceWithin (option_map (λ c. piece 1 (c ∷ [])) c)
letter_piece (Some c) h = one_low 1 c h
letter_piece None h = tt

simple_escape_within : (z : List ℕ) → PieceWithin (escapes.simple_escape z)
simple_escape_within [] = tt
simple_escape_within (e ∷ z) =
    cond_both (escapes.line_end (e ∷ z) == 0) _ _ PieceWithin (λ _. letter_piece (escapes.letter e) (letter_within e)) (λ _. refl)

abbrev DigitWithin : ℕ → Option ℕ → Type 0
DigitWithin most (Some d) = d < most
DigitWithin most None = Unit {0}

hex_digit_within : (b : ℕ) → DigitWithin 16 (escapes.hex_digit b)
hex_digit_within b = cond_both (nat_lt (digit_value b) 16) _ _ (DigitWithin 16) (λ h. ltb-true (digit_value b) 16 h) (λ _. tt)

hex_pair_within : (high low : Option ℕ) → DigitWithin 16 high → DigitWithin 16 low → DigitWithin 256 (escapes.hex_pair 16 high low)
hex_pair_within (Some high) (Some low) h k = omega arith
hex_pair_within (Some high) None h k = tt
hex_pair_within None low h k = tt

hex2_within : (z : List ℕ) → DigitWithin 256 (escapes.hex2 z)
hex2_within [] = tt
hex2_within (a ∷ []) = tt
hex2_within (a ∷ b ∷ z) = hex_pair_within (escapes.hex_digit a) (escapes.hex_digit b) (hex_digit_within a) (hex_digit_within b)

hex_piece : (b : Option ℕ) → DigitWithin 256 b → PieceWithin (option_map (λ b. piece 3 (b ∷ [])) b)
hex_piece (Some b) h = one_low 3 b (lt-ltb b 256 h)
hex_piece None h = tt

clob_escape_within : (z : List ℕ) → PieceWithin (escapes.clob_escape z)
clob_escape_within [] = tt
clob_escape_within (e ∷ z) =
    cond_both (e == byte "x") _ _ PieceWithin (λ _. hex_piece (escapes.hex2 z) (hex2_within z)) (λ _. simple_escape_within (e ∷ z))

short_within : (b : ℕ) (z : List ℕ) → is_ascii b ≡ true → PieceWithin (texts.short escapes.clob_escape b z)
short_within b z h =
    cond_both (b == byte "\\") _ _ PieceWithin (λ _. clob_escape_within z)
    (λ _. cond_both (texts.may_stand b) _ _ PieceWithin (λ _. one_low 0 b (low_byte b h)) (λ _. tt))

long_within : (b : ℕ) (z : List ℕ) → is_ascii b ≡ true → PieceWithin (texts.long escapes.clob_escape b z)
long_within b z h =
    cond_both (b == byte "\\") _ _ PieceWithin (λ _. clob_escape_within z)
    (λ _. cond_both (escapes.line_end (b ∷ z) == 0) _ _ PieceWithin (λ _. one_low 0 b (low_byte b h)) (λ _. refl))

content_within :
    (front : ℕ → List ℕ → Option Piece) → ((b : ℕ) (z : List ℕ) → is_ascii b ≡ true → PieceWithin (front b z)) → (z : List ℕ) → BytesWithin (lobs.clob_content front z)
content_within front each z = cond_both (list_all is_ascii z) _ _ BytesWithin (λ h. pieces_within is_ascii front each 0 z h) (λ _. tt)

short_clob_within : (z : List ℕ) (len : ℕ) → BytesWithin (lobs.short_clob z len)
short_clob_within z len =
    cond_both (list_all is_space (drop (len + 1) z)) _ _ BytesWithin (λ _. content_within (texts.short escapes.clob_escape) short_within (take len z)) (λ _. tt)

segment_piece : (more : ℕ) (bytes : Option (List ℕ)) → BytesWithin bytes → PieceWithin (option_map (piece more) bytes)
segment_piece more (Some bytes) h = h
segment_piece more None h = tt

segment_within : (z : List ℕ) (len : Option ℕ) → PieceWithin (option_and_then (lobs.clob_segment z) len)
segment_within z (Some len) = segment_piece (len + 5) _ (content_within (texts.long escapes.clob_escape) long_within (take len z))
segment_within z None = tt

long_clob_within : (b : ℕ) (z : List ℕ) → PieceWithin (lobs.long_clob b z)
long_clob_within b z =
    cond_both (is_space b) _ _ PieceWithin (λ _. refl)
    (λ _. cond_both (lobs.begins_segment (b ∷ z)) _ _ PieceWithin (λ _. segment_within (drop 2 z) (texts.before (codes "'''") false (drop 2 z))) (λ _. tt))

in_quotes : (z : List ℕ) (len : Option ℕ) → BytesWithin (option_and_then (lobs.short_clob z) len)
in_quotes z (Some len) = short_clob_within z len
in_quotes z None = tt

any_byte : (z : List ℕ) → list_all (λ b. true) z ≡ true
any_byte [] = refl
any_byte (b ∷ z) = any_byte z

clob_bytes_within : (z : List ℕ) → BytesWithin (lobs.clob_bytes z)
clob_bytes_within [] = tt
clob_bytes_within (b ∷ z) =
    cond_both (b == byte "\"") _ _ BytesWithin (λ _. in_quotes z (texts.before (codes "\"") false z))
    (λ _. pieces_within (λ b. true) lobs.long_clob (λ c y h. long_clob_within c y) 0 (b ∷ z) (any_byte (b ∷ z)))

-- ---- blobs

at_place : (o : Option ℕ) → ((i : ℕ) → o ≡ Some i → i < 64) → unwrap_or o 0 < 64
at_place None h = omega arith
at_place (Some i) h = h i refl

place_small : (b : ℕ) → lobs.digit_place b < 64
place_small b = at_place (position (λ digit. digit == b) base64_digits) (λ i h. (position-Some (λ digit. digit == b) base64_digits i 0 h).0)

group_first : (a b : ℕ) → a < 64 → b < 64 → a * 4 + b / 16 < 256
group_first a b h k = omega arith

group_second : (b c : ℕ) → c < 64 → b % 16 * 16 + c / 4 < 256
group_second b c h = omega arith

group_third : (c d : ℕ) → d < 64 → c % 4 * 64 + d < 256
group_third c d h = omega arith

group_within : (a b c d : ℕ) → bytes_within (lobs.group_bytes a b c d) ≡ true
group_within a b c d =
    let first : ℕ = lobs.digit_place a * 4 + lobs.digit_place b / 16 in
    let second : ℕ = lobs.digit_place b % 16 * 16 + lobs.digit_place c / 4 in
    let third : ℕ = lobs.digit_place c % 4 * 64 + lobs.digit_place d in
    let one : nat_lt first 256 ≡ true = lt-ltb first 256 (group_first _ _ (place_small a) (place_small b)) in
    let two : nat_lt second 256 ≡ true = lt-ltb second 256 (group_second _ _ (place_small c)) in
    let three : nat_lt third 256 ≡ true = lt-ltb third 256 (group_third _ _ (place_small d)) in
    cond_both (c == byte "=") _ _ (λ bytes. bytes_within bytes ≡ true) (λ _. rw one refl)
    (λ _. cond_both (d == byte "=") _ _ (λ bytes. bytes_within bytes ≡ true) (λ _. rw (one, two) refl) (λ _. rw (one, two, three) refl))

spelled_within : (z : List ℕ) → bytes_within (lobs.spelled z) ≡ true
spelled_within [] = refl
spelled_within (a ∷ []) = refl
spelled_within (a ∷ b ∷ []) = refl
spelled_within (a ∷ b ∷ c ∷ []) = refl
spelled_within (a ∷ b ∷ c ∷ d ∷ z) = list_all-append (λ b. nat_lt b 256) (lobs.group_bytes a b c d) (lobs.spelled z) ∙ and_from _ _ (group_within a b c d) (spelled_within z)

base64_within : (text : List ℕ) → BytesWithin (lobs.base64_bytes text)
base64_within text = cond_both (bytes_eq (encode base64_digits (byte "=") true (lobs.spelled text)) text) _ _ BytesWithin (λ _. spelled_within text) (λ _. tt)

-- ---- both

lob_lexed :
    (made : List ℕ → Scalar) → ((bytes : List ℕ) → bytes_within bytes ≡ true → scalar_within (made bytes) ≡ true) → (why : IonKind) (len : ℕ) (bytes : Option (List ℕ)) → BytesWithin bytes →
    LexedWithin (lobs.lob_token made why len bytes)
lob_lexed made same why len (Some bytes) h = same bytes h
lob_lexed made same why len None h = tt

lex_clob_within : (z : List ℕ) → LexedWithin (lobs.lex_clob z)
lex_clob_within z = closed_within _ (λ len. lob_lexed scalar.Clob (λ bytes h. h) fault.BadToken len _ (clob_bytes_within (lobs.without_white (take len z)))) (lobs.before_braces lobs.clob_hides 0 z)

lex_blob_within : (z : List ℕ) → LexedWithin (lobs.lex_blob z)
lex_blob_within z = closed_within _ (λ len. lob_lexed scalar.Blob (λ bytes h. h) fault.BadBase64 len _ (base64_within (filter (λ b. not (is_space b)) (take len z)))) (lobs.before_braces (λ b more. Some 0) 0 z)

lex_lob_within : (z : List ℕ) → LexedWithin (lobs.lex_lob z)
unfolding lobs.lex_lob
lex_lob_within z = cond_both (lobs.begins_clob (lobs.without_white (drop 2 z))) _ _ LexedWithin (λ _. lex_clob_within (drop 2 z)) (λ _. lex_blob_within (drop 2 z))

-- ---- all

mark_within : (b : ℕ) (z : List ℕ) → LexedWithin (lex_mark b z)
mark_within b z =
    cond_both (b == byte "[") _ _ LexedWithin (λ _. refl)
    (λ _. cond_both (b == byte "]") _ _ LexedWithin (λ _. refl)
    (λ _. cond_both (b == byte "(") _ _ LexedWithin (λ _. refl)
    (λ _. cond_both (b == byte ")") _ _ LexedWithin (λ _. refl)
    (λ _. cond_both (b == byte "{") _ _ LexedWithin (λ _. refl)
    (λ _. cond_both (b == byte "}") _ _ LexedWithin (λ _. refl)
    (λ _. cond_both (b == byte ",") _ _ LexedWithin (λ _. refl)
    (λ _. cond_both (begins (codes "::") z) _ _ LexedWithin (λ _. refl)
    (λ _. cond_both (b == byte ":") _ _ LexedWithin (λ _. refl) (λ _. tt)))))))))

comment_within : (len : Option ℕ) → LexedWithin (enclosed len)
comment_within (Some len) = tt
comment_within None = tt

run_lexed : (b : ℕ) (z : List ℕ) → LexedWithin (lex_run b (b ∷ z))
run_lexed b z =
    cond_both (begins_number b (b ∷ z)) _ _ LexedWithin (λ _. lex_number_within (b ∷ z))
    (λ _. cond_both (words.begins_word b) _ _ LexedWithin (lex_word_within b z)
    (λ _. cond_both (words.is_operator b) _ _ LexedWithin (lex_operator_within b z) (λ _. mark_within b (b ∷ z))))

pub lex_within : (z : List ℕ) → LexedWithin (lex z)
unfolding lex
lex_within [] = tt
lex_within (b ∷ z) =
    cond_both (is_space b) _ _ LexedWithin (λ _. tt)
    (λ _. cond_both (begins (codes "//") (b ∷ z)) _ _ LexedWithin (λ _. tt)
    (λ _. cond_both (begins (codes "/*") (b ∷ z)) _ _ LexedWithin (λ _. comment_within (to_close (drop 2 (b ∷ z))))
    (λ _. cond_both (begins (codes "{{") (b ∷ z)) _ _ LexedWithin (λ _. lex_lob_within (b ∷ z))
    (λ _. cond_both (b == byte "\"") _ _ LexedWithin (λ _. lex_string_within (b ∷ z))
    (λ _. cond_both (begins (codes "'''") (b ∷ z)) _ _ LexedWithin (λ _. lex_segment_within (b ∷ z))
    (λ _. cond_both (b == byte "'") _ _ LexedWithin (λ _. lex_quoted_within (b ∷ z)) (λ _. run_lexed b z)))))))
