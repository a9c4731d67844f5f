-- The one spelling of strings, symbols and clobs (Ion 1.0 text, "Strings", "Escape Characters", "Symbols" and
-- "Clobs"). Texts are UTF-8. Each byte is spelled by itself, and one that is no ASCII stands as it is.
use Rattle.std.specs.Prelude.{ℕ, ◌/◌, ◌%◌, ◌==◌, ◌&&◌, ◌||◌, not, Bool, false, nat_lt, nat_le, List, [], ◌∷◌, ◌++◌, codes, if◌then◌else◌}
use Rattle.std.specs.Char.{digit_char}
use Rattle.std.specs.List.{flat_map, list_all}
use Rattle.std.specs.Str.{bytes_eq}

-- `\x` and the byte's two hexadecimal digits in lower case
abbrev pub hex_escape : ℕ → List ℕ
hex_escape b = 92 ∷ 120 ∷ digit_char (b / 16) ∷ digit_char (b % 16) ∷ []

-- below 20 in hexadecimal, and 7F
abbrev pub is_control : ℕ → Bool
is_control b = nat_lt b 32 || b == 127

-- a byte of a text between two of the quotes, which are `"` or `'`
abbrev pub escape : ℕ → ℕ → List ℕ
escape quote b =
    if b == quote || b == 92 then 92 ∷ b ∷ [] else
    (if b == 10 then codes "\\n" else
    (if b == 13 then codes "\\r" else
    (if b == 9 then codes "\\t" else
    (if is_control b then hex_escape b else b ∷ []))))

abbrev pub quoted : ℕ → List ℕ → List ℕ
quoted quote text = quote ∷ flat_map (escape quote) text ++ quote ∷ []

abbrev pub string_text : List ℕ → List ℕ
string_text = quoted 34

-- a letter or `_`
abbrev pub begins_name : ℕ → Bool
begins_name b = (nat_le 65 b && nat_le b 90) || (nat_le 97 b && nat_le b 122) || b == 95

-- a letter, `_`, a digit or `$`
abbrev pub continues_name : ℕ → Bool
continues_name b = begins_name b || (nat_le 48 b && nat_le b 57) || b == 36

abbrev pub is_identifier : List ℕ → Bool
is_identifier [] = false
is_identifier (b ∷ more) = begins_name b && list_all continues_name more

abbrev pub is_keyword : List ℕ → Bool
is_keyword text =
    bytes_eq text (codes "null") || bytes_eq text (codes "true") || bytes_eq text (codes "false")
    || bytes_eq text (codes "nan")

-- stands without quotes
abbrev pub is_bare : List ℕ → Bool
is_bare text = is_identifier text && not (is_keyword text)

abbrev pub symbol_text : List ℕ → List ℕ
symbol_text text = if is_bare text then text else quoted 39 text

-- a byte of a clob
abbrev pub clob_escape : ℕ → List ℕ
clob_escape b =
    if b == 34 || b == 92 then 92 ∷ b ∷ [] else
    (if nat_le 32 b && nat_le b 126 then b ∷ [] else hex_escape b)

abbrev pub clob_text : List ℕ → List ℕ
clob_text bytes = codes "{{\"" ++ flat_map clob_escape bytes ++ codes "\"}}"
