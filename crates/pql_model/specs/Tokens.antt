-- The tokens of a statement with their offsets (PartiQL Specification, lexical structure; names, strings and numbers
-- as in SQL-92). White space is that of Ion text, and `--` begins a comment to the line's end.
use Rattle.std.specs.Prelude.{ℕ, zero, suc, pos, neg_ℤ, ◌+◌, ◌-◌, ◌^◌, ◌==◌, ◌&&◌, ◌||◌, Bool, true, false, not, nat_lt, nat_le, List, [], ◌∷◌, take, drop, slice_index, codes, Option, Some, None, option_map, Ok, if◌then◌else◌}
use Rattle.std.specs.Char.{is_ascii_digit}
use Rattle.std.specs.List.{filter, find, position, prefix_len}
use Rattle.std.specs.Str.{byte, is_utf8}
use Rattle.std.specs.Str.Parse.{digits_value}
use Rattle.ion_values.specs.declared.value.Body.{Body}
use Rattle.ion_values.specs.declared.value.Body.TheVariants as body
use Rattle.ion_values.specs.declared.value.Value.{Value}
use Rattle.ion_model.specs.Blanks.{begins, is_space, is_line_end}
use Rattle.ion_model.specs.Words.{begins_word, is_word_char}
use Rattle.ion_model.specs.Read.{Answer, read_text}
use Rattle.pql_model.specs.declared.ParseKind.TheVariants as kind
use Rattle.pql_model.specs.declared.token.Symbol.{Symbol}
use Rattle.pql_model.specs.declared.token.Symbol.TheVariants as symbol
use Rattle.pql_model.specs.declared.token.Token.{Token}
use Rattle.pql_model.specs.declared.token.Token.TheVariants as token
use Rattle.pql_model.specs.declared.token.Lexed.{Lexed}
use Rattle.pql_model.specs.declared.token.Lexed.TheVariants as lexed
use Rattle.pql_model.specs.declared.token.Located.{Located}

-- ---- comments, and words as in Ion text

abbrev pub lex_comment : List ℕ → Lexed
lex_comment z = lexed.Blank (prefix_len (λ b. not (is_line_end b)) z - 1)

abbrev pub lex_word : List ℕ → Lexed
lex_word z = let len = prefix_len is_word_char z in lexed.Token (token.Word (take len z)) (len - 1)

-- ---- texts between quotes, in which a doubled quote stands for one

-- How many bytes there are to the end of the closing quote, or None where it is missing. `after` tells whether the
-- byte before is a quote that the next one may double.
abbrev pub to_quote : ℕ → Bool → List ℕ → Option ℕ
to_quote quote false [] = None
to_quote quote true [] = Some 0
to_quote quote false (b ∷ z) = option_map suc (to_quote quote (b == quote) z)
to_quote quote true (b ∷ z) = if b == quote then option_map suc (to_quote quote false z) else Some 0

-- the text without the second quote of each pair
abbrev pub undoubled : ℕ → Bool → List ℕ → List ℕ
undoubled quote after [] = []
undoubled quote false (b ∷ z) = b ∷ undoubled quote (b == quote) z
undoubled quote true (b ∷ z) = undoubled quote false z

abbrev pub closed : (ℕ → Lexed) → Option ℕ → Lexed
closed made (Some len) = made len
closed made None = lexed.Refused kind.NotAToken

-- A text is UTF-8, as all is that stands between quotes in one that is.
abbrev pub text_token : (List ℕ → Token) → ℕ → List ℕ → Lexed
text_token made more text = if is_utf8 text then lexed.Token (made text) more else lexed.Refused kind.NotAToken

-- behind an opening quote
abbrev pub quoted : (List ℕ → Token) → ℕ → List ℕ → Lexed
quoted made quote z =
    closed (λ len. text_token made len (undoubled quote false (take (len - 1) z))) (to_quote quote false z)

-- ---- Ion values between backquotes, which end at the next backquote

-- one value
abbrev pub ion_token : ℕ → Answer → Lexed
ion_token more (Ok (v ∷ [])) = lexed.Token (token.Value v) more
ion_token more _ = lexed.Refused kind.IonLiteral

-- behind the first backquote
abbrev pub backquoted : List ℕ → Lexed
backquoted z = closed (λ len. ion_token (len + 1) (read_text 64 (take len z))) (position (λ b. b == byte "`") z)

-- ---- numbers without a sign: `0`, or digits without a 0 in front; and with a point and digits behind it

abbrev pub whole_len : List ℕ → ℕ
whole_len z = if slice_index z 0 == byte "0" then 1 else prefix_len is_ascii_digit z

-- how many digits stand behind a point
abbrev pub places_of : List ℕ → ℕ
places_of z = if begins (codes ".") z then prefix_len is_ascii_digit (drop 1 z) else 0

abbrev pub plain : Body → Value
plain content = record { annotations = []; body = content }

abbrev pub number : ℕ → ℕ → Body
number digits zero = body.Int (pos digits)
number digits places =
    body.Decimal (record { coefficient = pos digits; exponent = neg_ℤ (pos places); negative_zero = false })

-- with as many digits behind the point, within 128 bits and the least exponent
abbrev pub number_token : ℕ → ℕ → ℕ → Lexed
number_token more digits places =
    if nat_lt digits (2 ^ 127) && nat_le places 32_767
    then lexed.Token (token.Value (plain (number digits places))) more
    else lexed.Refused kind.TooWide

abbrev pub is_float_mark : ℕ → Bool
is_float_mark b = b == byte "e" || b == byte "E"

-- the first bytes, by their count, are a number, unless they begin a float
abbrev pub number_of : ℕ → ℕ → List ℕ → Lexed
number_of len places z =
    if is_float_mark (slice_index z len) then lexed.Refused kind.FloatRefused
    else number_token (len - 1) (digits_value 10 (filter is_ascii_digit (take len z))) places

abbrev pub lex_number : List ℕ → Lexed
lex_number z =
    let whole = whole_len z in
    let places = places_of (drop whole z) in
    number_of (if places == 0 then whole else whole + 1 + places) places z

-- ---- symbols

abbrev pub spelling : Symbol → List ℕ
spelling symbol.BagOpen = codes "<<"
spelling symbol.BagClose = codes ">>"
spelling symbol.LessGreater = codes "<>"
spelling symbol.BangEqual = codes "!="
spelling symbol.LessEqual = codes "<="
spelling symbol.GreaterEqual = codes ">="
spelling symbol.Bars = codes "||"
spelling symbol.Equal = codes "="
spelling symbol.Less = codes "<"
spelling symbol.Greater = codes ">"
spelling symbol.Plus = codes "+"
spelling symbol.Minus = codes "-"
spelling symbol.Star = codes "*"
spelling symbol.Slash = codes "/"
spelling symbol.Percent = codes "%"
spelling symbol.Open = codes "("
spelling symbol.Close = codes ")"
spelling symbol.ListOpen = codes "["
spelling symbol.ListClose = codes "]"
spelling symbol.StructOpen = codes "{"
spelling symbol.StructClose = codes "}"
spelling symbol.Comma = codes ","
spelling symbol.Colon = codes ":"
spelling symbol.Semicolon = codes ";"
spelling symbol.Point = codes "."
spelling symbol.At = codes "@"

-- those of two bytes
abbrev pub pairs : List Symbol
pairs =
    symbol.BagOpen ∷ symbol.BagClose ∷ symbol.LessGreater ∷ symbol.BangEqual ∷ symbol.LessEqual ∷ symbol.GreaterEqual
    ∷ symbol.Bars ∷ []

-- those of one byte
abbrev pub singles : List Symbol
singles =
    symbol.Equal ∷ symbol.Less ∷ symbol.Greater ∷ symbol.Plus ∷ symbol.Minus ∷ symbol.Star ∷ symbol.Slash
    ∷ symbol.Percent
    ∷ symbol.Open ∷ symbol.Close ∷ symbol.ListOpen ∷ symbol.ListClose ∷ symbol.StructOpen ∷ symbol.StructClose
    ∷ symbol.Comma ∷ symbol.Colon ∷ symbol.Semicolon ∷ symbol.Point ∷ symbol.At ∷ []

-- the one of these that stands in front
abbrev pub symbol_in : List Symbol → List ℕ → Option Symbol
symbol_in ones z = find (λ s. begins (spelling s) z) ones

abbrev pub symbol_token : ℕ → Option Symbol → Lexed → Lexed
symbol_token more (Some s) other = lexed.Token (token.Symbol s) more
symbol_token more None other = other

-- the longest one
abbrev pub lex_symbol : List ℕ → Lexed
lex_symbol z = symbol_token 1 (symbol_in pairs z) (symbol_token 0 (symbol_in singles z) (lexed.Refused kind.NotAToken))

-- ---- all tokens

-- what begins with this byte, before the text z, with the count of `?` before it
abbrev pub lex_at : ℕ → ℕ → List ℕ → Lexed
lex_at asked b z =
    if is_space b then lexed.Blank 0
    else (if begins (codes "--") (b ∷ z) then lex_comment (b ∷ z)
    else (if begins_word b then lex_word (b ∷ z)
    else (if is_ascii_digit b then lex_number (b ∷ z)
    else (if b == byte "\"" then quoted token.Quoted b z
    else (if b == byte "'" then quoted token.String b z
    else (if b == byte "`" then backquoted z
    else (if b == byte "?" then lexed.Token (token.Parameter asked) 0
    else lex_symbol (b ∷ z))))))))

unfoldable pub lex : ℕ → List ℕ → Lexed
lex asked [] = lexed.Refused kind.TextEnds
lex asked (b ∷ z) = lex_at asked b z

abbrev pub located : ℕ → Token → List Located → List Located
located at t ls = record { token = t; at = at } ∷ ls

-- what the bytes at `at` are, and then the rest, with the counts of bytes and of `?` before it
abbrev pub turn : ℕ → ℕ → (ℕ → ℕ → List Located) → Lexed → List Located
turn asked at rest (lexed.Blank more) = rest more asked
turn asked at rest (lexed.Token (token.Parameter n) more) = located at (token.Parameter n) (rest more (n + 1))
turn asked at rest (lexed.Token t more) = located at t (rest more asked)
turn asked at rest (lexed.Refused k) = located at (token.Bad k) []

-- The tokens of the bytes from `at` on, up to the first that is refused or to the text's end. The first `left` bytes
-- belong to what was read, and `asked` marks `?` stood before.
abbrev pub tokens_from : ℕ → ℕ → ℕ → List ℕ → List Located
tokens_from left asked at [] = located at token.End []
tokens_from (suc left) asked at (b ∷ z) = tokens_from left asked (at + 1) z
tokens_from zero asked at (b ∷ z) = turn asked at (λ more next. tokens_from more next (at + 1) z) (lex asked (b ∷ z))

abbrev pub tokens : List ℕ → List Located
tokens text = tokens_from 0 0 0 text
