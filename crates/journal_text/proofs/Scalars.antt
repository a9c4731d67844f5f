-- The texts of scalars, of annotations and of names stand on one line.
use Rattle.std.proofs.Common.{◌≡◌, ◌==◌, ◌+◌, ◌/◌, ◌%◌, ◌*◌, ◌&&◌, ◌||◌, ℕ, ℤ, pos, negsuc, zero, suc, Bool, true, false, not, nat_le, List, [], ◌∷◌, ◌++◌, length, Option, Some, None, codes, refl, arith}
use Rattle.std.specs.Prelude.{if◌then◌else◌}
use Rattle.std.specs.Char.{digit_char}
use Rattle.std.specs.Fmt.{digits, digits_onto, digit_glyph, signed_decimal}
use Rattle.std.specs.List.{flat_map, list_all}
use Rattle.std.proofs.lemmas.Bool.{and_parts, cond_both, ne_eqb}
use Rattle.std.proofs.lemmas.Bool.Decides.{nat_tests}
use Rattle.base64.specs.Rfc4648.{encode_group, encode_symbols, encode, padding_len}
use Rattle.ion_values.specs.Decimal.{DecimalParts}
use Rattle.ion_values.specs.declared.time.Precision.{Precision}
use Rattle.ion_values.specs.declared.time.Precision.TheVariants.{Year, Month, Day, Minute, Second}
use Rattle.ion_values.specs.declared.time.TimeParts.{TimeParts}
use Rattle.ion_values.specs.declared.value.Kind.{Kind}
use Rattle.ion_model.specs.Quoted.{hex_escape, is_control, escape, quoted, string_text, symbol_text, clob_escape, clob_text, begins_name, continues_name, is_identifier, is_bare, is_keyword}
use Rattle.ion_model.specs.Timestamp.{digit, two_digits, four_digits, first_digits, fraction_text, clock_text, offset_text, month_text, day_text, minute_text, second_text, text_to, timestamp_text}
use Rattle.ion_model.specs.Write.{null_text, bool_text, decimal_text, base64_digits, blob_text, annotation_text}
use Rattle.journal_text.proofs.Pieces.{OneLine, append_one_line, cons_one_line, replicate_one_line, flat_map_one_line, byte_at}

-- ---- quoted texts

hex_digit : (d : ℕ) → (digit_char d == 10) ≡ false
hex_digit d = grind (arith, nat_tests)

hex_escape_one_line : (b : ℕ) → OneLine (hex_escape b)
hex_escape_one_line b = rw (hex_digit (b / 16), hex_digit (b % 16)) refl

-- a quote or a backslash is no line feed
mark : (quote b : ℕ) → (quote == 10) ≡ false → (b == quote || b == 92) ≡ true → (b == 10) ≡ false
mark quote b h e = grind (arith, nat_tests)

escape_one_line : (quote : ℕ) → (quote == 10) ≡ false → (b : ℕ) → OneLine (escape quote b)
escape_one_line quote h b =
    cond_both (b == quote || b == 92) _ _ OneLine (λ e. cons_one_line b [] (mark quote b h e) refl)
    (λ _. cond_both (b == 10) _ _ OneLine (λ _. refl)
    (λ other. cond_both (b == 13) _ _ OneLine (λ _. refl)
    (λ _. cond_both (b == 9) _ _ OneLine (λ _. refl)
    (λ _. cond_both (is_control b) _ _ OneLine (λ _. hex_escape_one_line b) (λ _. cons_one_line b [] other refl)))))

quoted_one_line : (quote : ℕ) (text : List ℕ) → (quote == 10) ≡ false → OneLine (quoted quote text)
quoted_one_line quote text h =
    cons_one_line quote (flat_map (escape quote) text ++ quote ∷ []) h
    (append_one_line (flat_map (escape quote) text) (quote ∷ []) (flat_map_one_line (escape quote) (escape_one_line quote h) text) (cons_one_line quote [] h refl))

pub string_one_line : (text : List ℕ) → OneLine (string_text text)
string_one_line text = quoted_one_line 34 text refl

-- ---- symbols and annotations

name_byte : (b : ℕ) → continues_name b ≡ true → (b == 10) ≡ false
name_byte b h = grind (arith, nat_tests)

first_byte : (b : ℕ) → begins_name b ≡ true → (b == 10) ≡ false
first_byte b h = grind (arith, nat_tests)

name_bytes : (bs : List ℕ) → list_all continues_name bs ≡ true → OneLine bs
name_bytes [] h = refl
name_bytes (b ∷ bs) h = let both = and_parts (continues_name b) (list_all continues_name bs) h in cons_one_line b bs (name_byte b both.0) (name_bytes bs both.1)

identifier_one_line : (text : List ℕ) → is_identifier text ≡ true → OneLine text
identifier_one_line [] h = refl
identifier_one_line (b ∷ more) h = let both = and_parts (begins_name b) (list_all continues_name more) h in cons_one_line b more (first_byte b both.0) (name_bytes more both.1)

pub symbol_one_line : (text : List ℕ) → OneLine (symbol_text text)
symbol_one_line text =
    cond_both (is_bare text) _ _ OneLine (λ bare. identifier_one_line text (and_parts (is_identifier text) (not (is_keyword text)) bare).0) (λ _. quoted_one_line 39 text refl)

pub annotation_one_line : (name : List ℕ) → OneLine (annotation_text name)
annotation_one_line name = append_one_line (symbol_text name) (codes "::") (symbol_one_line name) refl

-- ---- numbers

glyph : (d : ℕ) → (digit_glyph false d == 10) ≡ false
glyph d = grind (arith, nat_tests)

digits_onto_one_line : (k n : ℕ) (behind : List ℕ) → OneLine behind → OneLine (digits_onto k 10 false n behind)
digits_onto_one_line zero n behind h = h
digits_onto_one_line (suc k) n behind h =
    let more = cons_one_line (digit_glyph false (n % 10)) behind (glyph (n % 10)) h in
    cond_both (n / 10 == 0) _ _ OneLine (λ _. more) (λ _. digits_onto_one_line k (n / 10) _ more)

digits_one_line : (n : ℕ) → OneLine (digits 10 false n)
unfolding digits
digits_one_line n = digits_onto_one_line 64 n [] refl

pub int_one_line : (z : ℤ) → OneLine (signed_decimal z)
int_one_line (pos n) = digits_one_line n
int_one_line (negsuc n) = digits_one_line (suc n)

pub decimal_one_line : (d : DecimalParts) → OneLine (decimal_text d)
decimal_one_line d =
    append_one_line (if d.negative_zero then codes "-0" else signed_decimal d.coefficient) (100 ∷ signed_decimal d.exponent)
    (cond_both d.negative_zero (codes "-0") (signed_decimal d.coefficient) OneLine (λ _. refl) (λ _. int_one_line d.coefficient)) (int_one_line d.exponent)

-- ---- timestamps

digit_byte : (n : ℕ) → (digit n == 10) ≡ false
digit_byte n = ne_eqb (digit n) 10 (λ e. omega (arith, e))

two_one_line : (n : ℕ) → OneLine (two_digits n)
two_one_line n = rw (digit_byte (n / 10), digit_byte n) refl

four_one_line : (n : ℕ) → OneLine (four_digits n)
four_one_line n = append_one_line (two_digits (n / 100)) (two_digits n) (two_one_line (n / 100)) (two_one_line n)

first_digits_one_line : (count n : ℕ) → OneLine (first_digits count n)
first_digits_one_line zero n = refl
first_digits_one_line (suc count) n =
    let rest = n % 100_000_000 * 10 in
    cons_one_line (digit (n / 100_000_000)) (first_digits count rest) (digit_byte (n / 100_000_000)) (first_digits_one_line count rest)

fraction_one_line : (count nanos : ℕ) → OneLine (fraction_text count nanos)
fraction_one_line count nanos = cond_both (count == 0) _ _ OneLine (λ _. refl) (λ _. first_digits_one_line count nanos)

clock_one_line : (minutes : ℕ) → OneLine (clock_text minutes)
clock_one_line minutes = append_one_line (two_digits (minutes / 60)) (58 ∷ two_digits (minutes % 60)) (two_one_line (minutes / 60)) (two_one_line (minutes % 60))

offset_one_line : (offset : Option ℤ) → OneLine (offset_text offset)
offset_one_line None = refl
offset_one_line (Some (pos minutes)) = cond_both (minutes == 0) _ _ OneLine (λ _. refl) (λ _. clock_one_line minutes)
offset_one_line (Some (negsuc less)) = clock_one_line (suc less)

month_one_line : (t : TimeParts) → OneLine (month_text t)
month_one_line t = append_one_line (four_digits t.year) (45 ∷ two_digits t.month) (four_one_line t.year) (two_one_line t.month)

day_one_line : (t : TimeParts) → OneLine (day_text t)
day_one_line t = append_one_line (month_text t) (45 ∷ two_digits t.day) (month_one_line t) (two_one_line t.day)

minute_one_line : (t : TimeParts) → OneLine (minute_text t)
minute_one_line t =
    append_one_line (day_text t) (84 ∷ two_digits t.hour ++ 58 ∷ two_digits t.minute) (day_one_line t)
    (append_one_line (two_digits t.hour) (58 ∷ two_digits t.minute) (two_one_line t.hour) (two_one_line t.minute))

second_one_line : (t : TimeParts) → OneLine (second_text t)
second_one_line t =
    append_one_line (minute_text t) (58 ∷ two_digits t.second ++ fraction_text t.digits t.nanos) (minute_one_line t)
    (append_one_line (two_digits t.second) (fraction_text t.digits t.nanos) (two_one_line t.second) (fraction_one_line t.digits t.nanos))

text_to_one_line : (precision : Precision) (t : TimeParts) → OneLine (text_to precision t)
text_to_one_line Year t = append_one_line (four_digits t.year) (codes "T") (four_one_line t.year) refl
text_to_one_line Month t = append_one_line (month_text t) (codes "T") (month_one_line t) refl
text_to_one_line Day t = day_one_line t
text_to_one_line Minute t = append_one_line (minute_text t) (offset_text t.offset) (minute_one_line t) (offset_one_line t.offset)
text_to_one_line Second t = append_one_line (second_text t) (offset_text t.offset) (second_one_line t) (offset_one_line t.offset)

pub timestamp_one_line : (t : TimeParts) → OneLine (timestamp_text t)
timestamp_one_line t = text_to_one_line t.precision t

-- ---- clobs and blobs

plain_byte : (b : ℕ) → (nat_le 32 b && nat_le b 126) ≡ true → (b == 10) ≡ false
plain_byte b h = grind (arith, nat_tests)

clob_escape_one_line : (b : ℕ) → OneLine (clob_escape b)
clob_escape_one_line b =
    cond_both (b == 34 || b == 92) _ _ OneLine (λ e. cons_one_line b [] (mark 34 b refl e) refl)
    (λ _. cond_both (nat_le 32 b && nat_le b 126) _ _ OneLine (λ e. cons_one_line b [] (plain_byte b e) refl) (λ _. hex_escape_one_line b))

pub clob_one_line : (bytes : List ℕ) → OneLine (clob_text bytes)
clob_one_line bytes = append_one_line (flat_map clob_escape bytes) (codes "\"}}") (flat_map_one_line clob_escape clob_escape_one_line bytes) refl

-- the digits of base64 are those of an alphabet that stands on one line
symbols_one_line : (alphabet : List ℕ) → OneLine alphabet → (bytes : List ℕ) → OneLine (encode_symbols alphabet bytes)
unfolding encode_symbols
symbols_one_line alphabet h [] = refl
symbols_one_line alphabet h (a ∷ []) = rw (byte_at alphabet (a / 4) h, byte_at alphabet (a % 4 * 16) h) refl
symbols_one_line alphabet h (a ∷ b ∷ []) =
    rw (byte_at alphabet (a / 4) h, byte_at alphabet (a % 4 * 16 + b / 16) h, byte_at alphabet (b % 16 * 4) h) refl
symbols_one_line alphabet h (a ∷ b ∷ c ∷ rest) =
    append_one_line (encode_group alphabet a b c) (encode_symbols alphabet rest)
    (rw (byte_at alphabet (a / 4) h, byte_at alphabet (a % 4 * 16 + b / 16) h, byte_at alphabet (b % 16 * 4 + c / 64) h, byte_at alphabet (c % 64) h) refl)
    (symbols_one_line alphabet h rest)

encode_one_line : (bytes : List ℕ) → OneLine (encode base64_digits 61 true bytes)
encode_one_line bytes = append_one_line (encode_symbols base64_digits bytes) _ (symbols_one_line base64_digits refl bytes) (replicate_one_line (padding_len (length bytes)) 61 refl)

pub blob_one_line : (bytes : List ℕ) → OneLine (blob_text bytes)
blob_one_line bytes = append_one_line (encode base64_digits 61 true bytes) (codes "}}") (encode_one_line bytes) refl

-- ---- words

pub null_one_line : (kind : Kind) → OneLine (null_text kind)
null_one_line Kind.Null = refl
null_one_line Kind.Bool = refl
null_one_line Kind.Int = refl
null_one_line Kind.Decimal = refl
null_one_line Kind.Timestamp = refl
null_one_line Kind.Symbol = refl
null_one_line Kind.String = refl
null_one_line Kind.Clob = refl
null_one_line Kind.Blob = refl
null_one_line Kind.List = refl
null_one_line Kind.Sexp = refl
null_one_line Kind.Struct = refl

pub bool_one_line : (truth : Bool) → OneLine (bool_text truth)
bool_one_line true = refl
bool_one_line false = refl
