-- Rows of strings, quoted symbols, segments, clobs and blobs with their tokens, and of some that are refused.
use Rattle.std.proofs.Common.{◌≡◌, ℕ, true, List, [], ◌∷◌, ◌++◌, refl}
use Rattle.std.specs.Prelude.{codes}
use Rattle.std.specs.Char.{encode_utf8}
use Rattle.std.specs.Str.{chars, is_utf8}
use Rattle.base64.specs.Rfc4648.{encode_symbols}
use Rattle.ion_values.specs.declared.fault.IonKind.TheVariants as fault
use Rattle.ion_model.specs.declared.Scalar.TheVariants as scalar
use Rattle.ion_model.specs.declared.Token.TheVariants as token
use Rattle.ion_model.specs.declared.Lexed.{Lexed}
use Rattle.ion_model.specs.declared.Lexed.TheVariants as lexed
use Rattle.ion_model.specs.Texts.{lex_string, lex_quoted, lex_segment}
use Rattle.ion_model.specs.Lobs.{lex_lob}

abbrev string : List ℕ → ℕ → Lexed
string text = lexed.Token (token.String text)

abbrev symbol : List ℕ → ℕ → Lexed
symbol text = lexed.Token (token.Symbol text true)

abbrev segment : List ℕ → ℕ → Lexed
segment text = lexed.Token (token.Segment text)

abbrev clob : List ℕ → ℕ → Lexed
clob bytes = lexed.Token (token.Scalar (scalar.Clob bytes))

abbrev blob : List ℕ → ℕ → Lexed
blob bytes = lexed.Token (token.Scalar (scalar.Blob bytes))

abbrev bad_token : Lexed
bad_token = lexed.Refused fault.BadToken

-- ---- strings

empty : lex_string (codes "\"\"x") ≡ string [] 1
unfolding lex_string chars is_utf8
empty = refl

plain : lex_string (codes "\"a b\", 5") ≡ string (codes "a b") 4
unfolding lex_string chars is_utf8 encode_utf8
plain = refl

letters : lex_string (codes "\"\\a\\b\\t\\n\\f\\r\\v\\0\\\"\\'\\?\\\\\\/\"") ≡ string (7 ∷ 8 ∷ 9 ∷ 10 ∷ 12 ∷ 13 ∷ 11 ∷ 0 ∷ 34 ∷ 39 ∷ 63 ∷ 92 ∷ 47 ∷ []) 27
unfolding lex_string chars is_utf8 encode_utf8
letters = refl

hexadecimal : lex_string (codes "\"\\x41\\xE9\\u20ac\\U0001F600\"") ≡ string (65 ∷ 195 ∷ 169 ∷ 226 ∷ 130 ∷ 172 ∷ 240 ∷ 159 ∷ 152 ∷ 128 ∷ []) 25
unfolding lex_string chars is_utf8 encode_utf8
hexadecimal = refl

surrogates : lex_string (codes "\"\\uD83D\\uDE00\"") ≡ string (240 ∷ 159 ∷ 152 ∷ 128 ∷ []) 13
unfolding lex_string chars is_utf8 encode_utf8
surrogates = refl

high_alone : lex_string (codes "\"\\uD83D\"") ≡ bad_token
unfolding lex_string
high_alone = refl

low_alone : lex_string (codes "\"\\uDE00\"") ≡ bad_token
unfolding lex_string
low_alone = refl

surrogate_in_eight : lex_string (codes "\"\\U0000D83D\\uDE00\"") ≡ bad_token
unfolding lex_string
surrogate_in_eight = refl

past_the_last : lex_string (codes "\"\\U00110000\"") ≡ bad_token
unfolding lex_string
past_the_last = refl

unknown_escape : lex_string (codes "\"\\q\"") ≡ bad_token
unfolding lex_string
unknown_escape = refl

hidden_quote : lex_string (codes "\"\\q\\\"") ≡ lexed.Cut
unfolding lex_string
hidden_quote = refl

cut : lex_string (codes "\"ab") ≡ lexed.Cut
unfolding lex_string
cut = refl

line_feed : lex_string (34 ∷ 10 ∷ 34 ∷ []) ≡ bad_token
unfolding lex_string
line_feed = refl

tab : lex_string (34 ∷ 9 ∷ 11 ∷ 12 ∷ 34 ∷ []) ≡ string (9 ∷ 11 ∷ 12 ∷ []) 4
unfolding lex_string chars is_utf8 encode_utf8
tab = refl

hidden_line_ends : lex_string (34 ∷ 97 ∷ 92 ∷ 13 ∷ 10 ∷ 92 ∷ 13 ∷ 92 ∷ 10 ∷ 98 ∷ 34 ∷ []) ≡ string (codes "ab") 10
unfolding lex_string chars is_utf8 encode_utf8
hidden_line_ends = refl

-- ---- quoted symbols

quoted : lex_quoted (codes "'it\\'s \"x\"':1") ≡ symbol (codes "it's \"x\"") 10
unfolding lex_quoted chars is_utf8 encode_utf8
quoted = refl

-- ---- segments

segment_with_quotes : lex_segment (codes "'''a''b\\'''''") ≡ segment (codes "a''b'") 11
unfolding lex_segment chars is_utf8 encode_utf8
segment_with_quotes = refl

line_ends : lex_segment (39 ∷ 39 ∷ 39 ∷ 13 ∷ 10 ∷ 97 ∷ 13 ∷ 13 ∷ 10 ∷ 0 ∷ 92 ∷ 13 ∷ 10 ∷ 39 ∷ 39 ∷ 39 ∷ []) ≡ segment (10 ∷ 97 ∷ 10 ∷ 10 ∷ 0 ∷ []) 15
unfolding lex_segment chars is_utf8 encode_utf8
line_ends = refl

cut_segment : lex_segment (codes "'''a''") ≡ lexed.Cut
unfolding lex_segment
cut_segment = refl

-- ---- clobs

short_clob : lex_lob (codes "{{ \"a}}\\xff\\n\" }}") ≡ clob (97 ∷ 125 ∷ 125 ∷ 255 ∷ 10 ∷ []) 16
unfolding lex_lob
short_clob = refl

long_clob : lex_lob (codes "{{'''a'''  '''\\'b'''}}") ≡ clob (codes "a'b") 21
unfolding lex_lob
long_clob = refl

unicode_in_clob : lex_lob (codes "{{\"\\u0041\"}}") ≡ bad_token
unfolding lex_lob
unicode_in_clob = refl

two_strings : lex_lob (codes "{{\"a\" \"b\"}}") ≡ bad_token
unfolding lex_lob
two_strings = refl

comment_in_clob : lex_lob (codes "{{'''a''' /**/ '''b'''}}") ≡ bad_token
unfolding lex_lob
comment_in_clob = refl

no_ascii : lex_lob (codes "{{\"" ++ 195 ∷ 169 ∷ codes "\"}}") ≡ bad_token
unfolding lex_lob
no_ascii = refl

cut_clob : lex_lob (codes "{{\"\\q\"}") ≡ lexed.Cut
unfolding lex_lob
cut_clob = refl

-- ---- blobs

empty_blob : lex_lob (codes "{{ }}}") ≡ blob [] 4
unfolding lex_lob encode_symbols
empty_blob = refl

one_byte : lex_lob (codes "{{YQ==}}") ≡ blob (97 ∷ []) 7
unfolding lex_lob encode_symbols
one_byte = refl

all_bits : lex_lob (codes "{{\n+/+/ A\tB A=\n}}") ≡ blob (251 ∷ 255 ∷ 191 ∷ 0 ∷ 16 ∷ []) 16
unfolding lex_lob encode_symbols
all_bits = refl

no_padding : lex_lob (codes "{{YQ=}}") ≡ lexed.Refused fault.BadBase64
unfolding lex_lob encode_symbols
no_padding = refl

stray_bits : lex_lob (codes "{{YR==}}") ≡ lexed.Refused fault.BadBase64
unfolding lex_lob encode_symbols
stray_bits = refl

no_digit : lex_lob (codes "{{'a'}}") ≡ lexed.Refused fault.BadBase64
unfolding lex_lob encode_symbols
no_digit = refl

cut_blob : lex_lob (codes "{{YQ==} ") ≡ lexed.Cut
unfolding lex_lob
cut_blob = refl
