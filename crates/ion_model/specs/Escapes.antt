-- Escapes in the texts between quotes (Ion 1.0 text, "Escape Characters"). Each definition reads what stands behind a
-- backslash.
use Rattle.std.specs.Prelude.{ℕ, ◌^◌, ◌+◌, ◌*◌, ◌==◌, ◌&&◌, ◌||◌, nat_lt, List, [], ◌∷◌, drop, slice_index, Option, Some, None, option_map, option_and_then, encode_utf8, if◌then◌else◌}
use Rattle.std.specs.Char.{digit_value}
use Rattle.std.specs.Char.Utf16.{is_high_surrogate, is_low_surrogate, surrogate_pair_char}
use Rattle.std.specs.Str.{all_scalars, byte}

-- What stands in front of a text: the bytes that it gives, and how many of its own bytes follow the first.
pub record Piece : Type 0 where
  pub gives : List ℕ
  pub more : ℕ

abbrev pub piece : ℕ → List ℕ → Piece
piece more bytes = record { gives = bytes; more = more }

-- ---- hexadecimal digits, in either case

abbrev pub hex_digit : ℕ → Option ℕ
hex_digit b = if nat_lt (digit_value b) 16 then Some (digit_value b) else None

-- two numbers as one, the first of which is multiplied by the base
abbrev pub hex_pair : ℕ → Option ℕ → Option ℕ → Option ℕ
hex_pair weight (Some high) (Some low) = Some (high * weight + low)
hex_pair weight _ _ = None

-- what the first two digits spell, the first four, the first eight
abbrev pub hex2 : List ℕ → Option ℕ
hex2 (a ∷ b ∷ z) = hex_pair 16 (hex_digit a) (hex_digit b)
hex2 _ = None

abbrev pub hex4 : List ℕ → Option ℕ
hex4 z = hex_pair (16 ^ 2) (hex2 z) (hex2 (drop 2 z))

abbrev pub hex8 : List ℕ → Option ℕ
hex8 z = hex_pair (16 ^ 4) (hex4 z) (hex4 (drop 4 z))

-- ---- characters by their codes

-- the character with this code, where there is one
abbrev pub character : ℕ → ℕ → Option Piece
character more code = if all_scalars (code ∷ []) then Some (piece more (encode_utf8 code)) else None

-- the code of a second `\u`
abbrev pub second_unit : List ℕ → Option ℕ
second_unit (a ∷ b ∷ z) = if a == byte "\\" && b == byte "u" then hex4 z else None
second_unit _ = None

-- two surrogates, which are one character
abbrev pub paired : ℕ → ℕ → Option Piece
paired high low = if is_low_surrogate low then character 11 (surrogate_pair_char high low) else None

-- `\u` with this code, before the text z
abbrev pub unit : List ℕ → ℕ → Option Piece
unit z code = if is_high_surrogate code then option_and_then (paired code) (second_unit z) else character 5 code

-- ---- all escapes

-- how many bytes the line's end in front has, which is CR LF, CR or LF; 0 where there is none
abbrev pub line_end : List ℕ → ℕ
line_end [] = 0
line_end (b ∷ z) = if b == 13 then (if slice_index z 0 == 10 then 2 else 1) else (if b == 10 then 1 else 0)

-- the character of an escape of one letter or mark
abbrev pub letter : ℕ → Option ℕ
letter e =
    if e == byte "a" then Some 7
    else (if e == byte "b" then Some 8
    else (if e == byte "t" then Some 9
    else (if e == byte "n" then Some 10
    else (if e == byte "f" then Some 12
    else (if e == byte "r" then Some 13
    else (if e == byte "v" then Some 11
    else (if e == byte "0" then Some 0
    else (if e == byte "\"" || e == byte "'" || e == byte "?" || e == byte "\\" || e == byte "/" then Some e
    else None))))))))

-- a letter or mark, or a line's end, which gives nothing
abbrev pub simple_escape : List ℕ → Option Piece
simple_escape [] = None
simple_escape (e ∷ z) =
    let len = line_end (e ∷ z) in
    if len == 0 then option_map (λ c. piece 1 (c ∷ [])) (letter e) else Some (piece len [])

abbrev pub text_escape : List ℕ → Option Piece
text_escape [] = None
text_escape (e ∷ z) =
    if e == byte "x" then option_and_then (character 3) (hex2 z)
    else (if e == byte "u" then option_and_then (unit (drop 4 z)) (hex4 z)
    else (if e == byte "U" then option_and_then (character 9) (hex8 z)
    else simple_escape (e ∷ z)))

-- In a clob each escape gives a byte.
abbrev pub clob_escape : List ℕ → Option Piece
clob_escape [] = None
clob_escape (e ∷ z) = if e == byte "x" then option_map (λ b. piece 3 (b ∷ [])) (hex2 z) else simple_escape (e ∷ z)
