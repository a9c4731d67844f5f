-- Clobs and blobs (Ion 1.0 text, "Clobs" and "Blobs"; RFC 4648, section 4).
use Rattle.std.specs.Prelude.{ℕ, zero, suc, ◌+◌, ◌*◌, ◌/◌, ◌%◌, ◌==◌, ◌||◌, not, Bool, true, false, List, [], ◌∷◌, ◌++◌, take, drop, codes, Option, Some, None, option_map, option_and_then, unwrap_or, if◌then◌else◌}
use Rattle.std.specs.List.{filter, list_all, position, prefix_len}
use Rattle.std.specs.Char.{is_ascii}
use Rattle.std.specs.Str.{byte, bytes_eq}
use Rattle.base64.specs.Rfc4648.{encode}
use Rattle.ion_values.specs.declared.fault.IonKind.{IonKind}
use Rattle.ion_values.specs.declared.fault.IonKind.TheVariants as fault
use Rattle.ion_model.specs.Write.{base64_digits}
use Rattle.ion_model.specs.Blanks.{begins, is_space}
use Rattle.ion_model.specs.Escapes.{Piece, piece, clob_escape}
use Rattle.ion_model.specs.Texts.{before, closed, long, pieces, short}
use Rattle.ion_model.specs.declared.Scalar.{Scalar}
use Rattle.ion_model.specs.declared.Scalar.TheVariants as scalar
use Rattle.ion_model.specs.declared.Token.TheVariants as token
use Rattle.ion_model.specs.declared.Lexed.{Lexed}
use Rattle.ion_model.specs.declared.Lexed.TheVariants as lexed

-- a lob, with the count of bytes between its braces, or one that is refused
abbrev pub lob_token : (List ℕ → Scalar) → IonKind → ℕ → Option (List ℕ) → Lexed
lob_token made refused len (Some bytes) = lexed.Token (token.Scalar (made bytes)) (len + 3)
lob_token made refused len None = lexed.Refused refused

-- How many bytes stand before the closing braces, or None where they are missing; the first `left` bytes were passed.
-- A byte before the text z hides as many bytes as `hidden` says, or all where it says None.
abbrev pub before_braces : (ℕ → List ℕ → Option ℕ) → ℕ → List ℕ → Option ℕ
before_braces hidden left [] = None
before_braces hidden (suc left) (b ∷ z) = option_map suc (before_braces hidden left z)
before_braces hidden zero (b ∷ z) =
    if begins (codes "}}") (b ∷ z) then Some 0
    else option_and_then (λ more. option_map suc (before_braces hidden more z)) (hidden b z)

-- without the white space in front
abbrev pub without_white : List ℕ → List ℕ
without_white z = drop (prefix_len is_space z) z

-- ---- clobs

abbrev pub begins_segment : List ℕ → Bool
begins_segment z = begins (codes "'''") z

abbrev pub begins_clob : List ℕ → Bool
begins_clob z = begins (codes "\"") z || begins_segment z

-- the bytes between the quotes of a clob
abbrev pub clob_content : (ℕ → List ℕ → Option Piece) → List ℕ → Option (List ℕ)
clob_content front z = if list_all is_ascii z then pieces front 0 z else None

-- The closing braces of a clob stand behind its strings: a quote hides all up to the quote that closes it.
abbrev pub clob_hides : ℕ → List ℕ → Option ℕ
clob_hides b z =
    if b == byte "\"" then option_map (λ len. len + 1) (before (codes "\"") false z)
    else (if begins_segment (b ∷ z) then option_map (λ len. len + 5) (before (codes "'''") false (drop 2 z))
    else Some 0)

-- a string, with the count of its bytes, and white space alone after it
abbrev pub short_clob : List ℕ → ℕ → Option (List ℕ)
short_clob z len = if list_all is_space (drop (len + 1) z) then clob_content (short clob_escape) (take len z) else None

-- a segment, with the count of its bytes
abbrev pub clob_segment : List ℕ → ℕ → Option Piece
clob_segment z len = option_map (piece (len + 5)) (clob_content (long clob_escape) (take len z))

-- segments with white space round them
abbrev pub long_clob : ℕ → List ℕ → Option Piece
long_clob b z =
    if is_space b then Some (piece 0 [])
    else (if begins_segment (b ∷ z) then option_and_then (clob_segment (drop 2 z))
    (before (codes "'''") false (drop 2 z))
    else None)

-- what stands between the braces of a clob, from its first string on
abbrev pub clob_bytes : List ℕ → Option (List ℕ)
clob_bytes [] = None
clob_bytes (b ∷ z) =
    if b == byte "\"" then option_and_then (short_clob z) (before (codes "\"") false z)
    else pieces long_clob 0 (b ∷ z)

-- behind the opening braces, where a string comes next
abbrev pub lex_clob : List ℕ → Lexed
lex_clob z =
    closed (λ len. lob_token scalar.Clob fault.BadToken len (clob_bytes (without_white (take len z))))
    (before_braces clob_hides 0 z)

-- ---- blobs

-- the place of a digit among the digits, and 0 for another byte
abbrev pub digit_place : ℕ → ℕ
digit_place b = unwrap_or (position (λ digit. digit == b) base64_digits) 0

-- the bytes of four digits, the last one or two of which may be `=`
abbrev pub group_bytes : ℕ → ℕ → ℕ → ℕ → List ℕ
group_bytes a b c d =
    let first = digit_place a * 4 + digit_place b / 16 in
    let second = digit_place b % 16 * 16 + digit_place c / 4 in
    let third = digit_place c % 4 * 64 + digit_place d in
    if c == byte "=" then first ∷ []
    else (if d == byte "=" then first ∷ second ∷ [] else first ∷ second ∷ third ∷ [])

abbrev pub spelled : List ℕ → List ℕ
spelled (a ∷ b ∷ c ∷ d ∷ z) = group_bytes a b c d ++ spelled z
spelled _ = []

-- the bytes whose base64 this is, padded by `=`, or None where there are none
abbrev pub base64_bytes : List ℕ → Option (List ℕ)
base64_bytes text =
    if bytes_eq (encode base64_digits (byte "=") true (spelled text)) text then Some (spelled text) else None

-- behind the opening braces
abbrev pub lex_blob : List ℕ → Lexed
lex_blob z =
    closed (λ len. lob_token scalar.Blob fault.BadBase64 len
    (base64_bytes (filter (λ b. not (is_space b)) (take len z))))
    (before_braces (λ b more. Some 0) 0 z)

-- ---- both

unfoldable pub lex_lob : List ℕ → Lexed
lex_lob z = let rest = drop 2 z in if begins_clob (without_white rest) then lex_clob rest else lex_blob rest
