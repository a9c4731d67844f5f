-- Texts between quotes: strings, quoted symbols and the segments of long strings (Ion 1.0 text, "Strings" and
-- "Symbols").
use Rattle.std.specs.Prelude.{ℕ, zero, suc, ◌+◌, ◌-◌, ◌*◌, ◌==◌, ◌||◌, Bool, true, false, nat_le, List, [], ◌∷◌, ◌++◌, length, take, drop, codes, Option, Some, None, option_map, if◌then◌else◌}
use Rattle.std.specs.Str.{byte, is_utf8}
use Rattle.ion_values.specs.declared.fault.IonKind.TheVariants as fault
use Rattle.ion_model.specs.Blanks.{begins}
use Rattle.ion_model.specs.Escapes.{Piece, piece, line_end, text_escape}
use Rattle.ion_model.specs.declared.Token.{Token}
use Rattle.ion_model.specs.declared.Token.TheVariants as token
use Rattle.ion_model.specs.declared.Lexed.{Lexed}
use Rattle.ion_model.specs.declared.Lexed.TheVariants as lexed

-- ---- where a text ends

-- How many bytes stand before the closing quotes, or None where they are missing. A backslash hides the byte behind it.
abbrev pub before : List ℕ → Bool → List ℕ → Option ℕ
before quotes hidden [] = None
before quotes true (b ∷ z) = option_map suc (before quotes false z)
before quotes false (b ∷ z) =
    if begins quotes (b ∷ z) then Some 0 else option_map suc (before quotes (b == byte "\\") z)

-- ---- what stands between the quotes

-- In a short text no character below 20 in hexadecimal stands but tab, vertical tab and form feed.
abbrev pub may_stand : ℕ → Bool
may_stand b = nat_le 32 b || b == 9 || b == 11 || b == 12

-- a byte of a short text, before the text z, or an escape of these
abbrev pub short : (List ℕ → Option Piece) → ℕ → List ℕ → Option Piece
short escape b z =
    if b == byte "\\" then escape z
    else (if may_stand b then Some (piece 0 (b ∷ [])) else None)

-- In a long text any character stands, and a line's end is a line feed.
abbrev pub long : (List ℕ → Option Piece) → ℕ → List ℕ → Option Piece
long escape b z =
    if b == byte "\\" then escape z
    else (if line_end (b ∷ z) == 0 then Some (piece 0 (b ∷ [])) else Some (piece (line_end (b ∷ z) - 1) (10 ∷ [])))

abbrev pub with_piece : (ℕ → Option (List ℕ)) → Option Piece → Option (List ℕ)
with_piece rest (Some p) = option_map (λ bytes. p.gives ++ bytes) (rest p.more)
with_piece rest None = None

-- What a text gives piece by piece, where its first `left` bytes belong to a piece that was read, or None where a
-- piece is ill-formed.
abbrev pub pieces : (ℕ → List ℕ → Option Piece) → ℕ → List ℕ → Option (List ℕ)
pieces front left [] = Some []
pieces front (suc left) (b ∷ z) = pieces front left z
pieces front zero (b ∷ z) = with_piece (λ more. pieces front more z) (front b z)

-- ---- tokens

-- A text is UTF-8, as all is that stands between quotes in one that is.
abbrev pub text_token : (List ℕ → Token) → ℕ → Option (List ℕ) → Lexed
text_token made more (Some text) = if is_utf8 text then lexed.Token (made text) more else lexed.Refused fault.BadToken
text_token made more None = lexed.Refused fault.BadToken

abbrev pub closed : (ℕ → Lexed) → Option ℕ → Lexed
closed made (Some len) = made len
closed made None = lexed.Cut

-- a text between such quotes, which stands in front
abbrev pub lex_text : List ℕ → (ℕ → List ℕ → Option Piece) → (List ℕ → Token) → List ℕ → Lexed
lex_text quotes front made z =
    let rest = drop (length quotes) z in
    closed (λ len. text_token made (len + (2 * length quotes - 1)) (pieces front 0 (take len rest)))
    (before quotes false rest)

unfoldable pub lex_string : List ℕ → Lexed
lex_string = lex_text (codes "\"") (short text_escape) token.String

unfoldable pub lex_quoted : List ℕ → Lexed
lex_quoted = lex_text (codes "'") (short text_escape) (λ text. token.Symbol text true)

unfoldable pub lex_segment : List ℕ → Lexed
lex_segment = lex_text (codes "'''") (long text_escape) token.Segment
