-- Words and operators (Ion 1.0, "Text encoding", null values, booleans, floats and symbols).
use Rattle.std.specs.Prelude.{ℕ, ◌+◌, ◌==◌, ◌&&◌, ◌||◌, Bool, true, false, nat_le, length, List, [], ◌∷◌, take, drop, slice_get, codes, Option, Some, None, if◌then◌else◌}
use Rattle.std.specs.Char.{is_ascii_digit, is_ascii_alphabetic, is_ascii_alphanumeric}
use Rattle.std.specs.List.{prefix_len, list_any, list_all}
use Rattle.std.specs.Option.{option_map_or}
use Rattle.std.specs.Str.{bytes_eq}
use Rattle.ion_values.specs.declared.fault.IonKind.TheVariants as fault
use Rattle.ion_values.specs.declared.value.Kind.{Kind}
use Rattle.ion_values.specs.declared.value.Kind.TheVariants as kind
use Rattle.ion_model.specs.Blanks.{begins}
use Rattle.ion_model.specs.Numbers.{is_stop}
use Rattle.ion_model.specs.declared.Scalar.TheVariants as scalar
use Rattle.ion_model.specs.declared.Token.TheVariants as token
use Rattle.ion_model.specs.declared.Lexed.{Lexed}
use Rattle.ion_model.specs.declared.Lexed.TheVariants as lexed

-- ---- words: a letter, `_` or `$`, and such characters and digits

abbrev pub begins_word : ℕ → Bool
begins_word b = is_ascii_alphabetic b || b == 0x5F || b == 0x24

abbrev pub is_word_char : ℕ → Bool
is_word_char b = is_ascii_alphanumeric b || b == 0x5F || b == 0x24

-- the type with this name; float is refused
abbrev pub kind_of : List ℕ → Option Kind
kind_of name =
    if bytes_eq name (codes "null") then Some kind.Null
    else (if bytes_eq name (codes "bool") then Some kind.Bool
    else (if bytes_eq name (codes "int") then Some kind.Int
    else (if bytes_eq name (codes "decimal") then Some kind.Decimal
    else (if bytes_eq name (codes "timestamp") then Some kind.Timestamp
    else (if bytes_eq name (codes "symbol") then Some kind.Symbol
    else (if bytes_eq name (codes "string") then Some kind.String
    else (if bytes_eq name (codes "clob") then Some kind.Clob
    else (if bytes_eq name (codes "blob") then Some kind.Blob
    else (if bytes_eq name (codes "list") then Some kind.List
    else (if bytes_eq name (codes "sexp") then Some kind.Sexp
    else (if bytes_eq name (codes "struct") then Some kind.Struct
    else None)))))))))))

abbrev pub null_of : Option Kind → ℕ → Lexed
null_of (Some k) more = lexed.Token (token.Scalar (scalar.Null k)) more
null_of None more = lexed.Refused fault.BadToken

-- `null.` and the name of a type behind it
abbrev pub typed_null : List ℕ → Lexed
typed_null z =
    let len = prefix_len is_word_char (drop 5 z) in
    let name = take len (drop 5 z) in
    if bytes_eq name (codes "float") then lexed.Refused fault.FloatRefused else null_of (kind_of name) (len + 4)

-- `$` and digits
abbrev pub is_symbol_id : List ℕ → Bool
is_symbol_id [] = false
is_symbol_id (b ∷ digits) = b == 0x24 && nat_le 1 (length digits) && list_all is_ascii_digit digits

-- a word alone
abbrev pub word_of : List ℕ → ℕ → Lexed
word_of word more =
    if bytes_eq word (codes "null") then lexed.Token (token.Scalar (scalar.Null kind.Null)) more
    else (if bytes_eq word (codes "true") then lexed.Token (token.Scalar (scalar.Bool true)) more
    else (if bytes_eq word (codes "false") then lexed.Token (token.Scalar (scalar.Bool false)) more
    else (if bytes_eq word (codes "nan") then lexed.Refused fault.FloatRefused
    else (if is_symbol_id word then lexed.Refused fault.SymbolIdRefused
    else lexed.Token (token.Symbol word false) more))))

-- the word `null` with a point behind it
abbrev pub is_typed : ℕ → List ℕ → Bool
is_typed more z = more == 3 && begins (codes "null.") z

abbrev pub lex_word : List ℕ → Lexed
lex_word z =
    let more = prefix_len is_word_char (drop 1 z) in
    if is_typed more z then typed_null z else word_of (take (more + 1) z) more

-- ---- operators: runs of these characters

abbrev pub is_operator : ℕ → Bool
is_operator b = list_any (λ o. o == b) (codes "!#%&*+-./;<=>?@^`|~")

-- the text ends here, or a stop stands here, as behind a number
abbrev pub is_end_at : ℕ → List ℕ → Bool
is_end_at n z = option_map_or is_stop (slice_get z n) true

-- a sign and `inf` are a number
abbrev pub is_infinity : List ℕ → Bool
is_infinity z = (begins (codes "+inf") z || begins (codes "-inf") z) && is_end_at 4 z

abbrev pub lex_operator : List ℕ → Lexed
lex_operator z =
    let more = prefix_len is_operator (drop 1 z) in
    if is_infinity z then lexed.Refused fault.FloatRefused else lexed.Token (token.Operator (take (more + 1) z)) more
