-- The token in front of a text, by its first byte (Ion 1.0, "Text encoding").
use Rattle.std.specs.Prelude.{ℕ, ◌==◌, ◌&&◌, ◌||◌, Bool, List, [], ◌∷◌, slice_index, codes, if◌then◌else◌}
use Rattle.std.specs.Char.{is_ascii_digit}
use Rattle.std.specs.Str.{byte}
use Rattle.ion_values.specs.declared.fault.IonKind.TheVariants as fault
use Rattle.ion_model.specs.Blanks.{begins, is_space, line_comment, block_comment}
use Rattle.ion_model.specs.Words.{begins_word, is_operator, lex_word, lex_operator}
use Rattle.ion_model.specs.Numbers.{lex_number}
use Rattle.ion_model.specs.Texts.{lex_string, lex_quoted, lex_segment}
use Rattle.ion_model.specs.Lobs.{lex_lob}
use Rattle.ion_model.specs.declared.Token.TheVariants as token
use Rattle.ion_model.specs.declared.Lexed.{Lexed}
use Rattle.ion_model.specs.declared.Lexed.TheVariants as lexed

-- a digit, or a minus and a digit
abbrev pub begins_number : ℕ → List ℕ → Bool
begins_number b z = is_ascii_digit b || (b == byte "-" && is_ascii_digit (slice_index z 1))

-- a mark of one byte, or of two
abbrev pub lex_mark : ℕ → List ℕ → Lexed
lex_mark b z =
    if b == byte "[" then lexed.Token token.ListOpen 0
    else (if b == byte "]" then lexed.Token token.ListClose 0
    else (if b == byte "(" then lexed.Token token.SexpOpen 0
    else (if b == byte ")" then lexed.Token token.SexpClose 0
    else (if b == byte "{" then lexed.Token token.StructOpen 0
    else (if b == byte "}" then lexed.Token token.StructClose 0
    else (if b == byte "," then lexed.Token token.Comma 0
    else (if begins (codes "::") z then lexed.Token token.DoubleColon 1
    else (if b == byte ":" then lexed.Token token.Colon 0
    else lexed.Refused fault.BadToken))))))))

-- a number, a word or a run of operator characters, and else a mark
abbrev pub lex_run : ℕ → List ℕ → Lexed
lex_run b z =
    if begins_number b z then lex_number z
    else (if begins_word b then lex_word z
    else (if is_operator b then lex_operator z
    else lex_mark b z))

-- the text z, whose first byte is b
abbrev pub lex_at : ℕ → List ℕ → Lexed
lex_at b z =
    if is_space b then lexed.Blank 0
    else (if begins (codes "//") z then line_comment z
    else (if begins (codes "/*") z then block_comment z
    else (if begins (codes "{{") z then lex_lob z
    else (if b == byte "\"" then lex_string z
    else (if begins (codes "'''") z then lex_segment z
    else (if b == byte "'" then lex_quoted z
    else lex_run b z))))))

unfoldable pub lex : List ℕ → Lexed
lex [] = lexed.Cut
lex (b ∷ z) = lex_at b (b ∷ z)
