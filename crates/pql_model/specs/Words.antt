-- Words and names in statements (PartiQL Specification, lexical structure): words are read without regard to case,
-- and names exactly.
use Rattle.std.specs.Prelude.{ℕ, Bool, false, List, [], ◌∷◌, codes, Option, Some, None, if◌then◌else◌}
use Rattle.std.specs.List.{list_any}
use Rattle.std.specs.Str.{bytes_eq, str_eq_ignore_ascii_case}
use Rattle.pql_model.specs.declared.token.Token.{Token}
use Rattle.pql_model.specs.declared.token.Token.TheVariants as token
use Rattle.pql_model.specs.Tokens.{spelling}

abbrev pub reserved : List (List ℕ)
reserved =
    codes "SELECT" ∷ codes "FROM" ∷ codes "WHERE" ∷ codes "VALUE" ∷ codes "AS" ∷ codes "BY" ∷ codes "AT"
    ∷ codes "IN" ∷ codes "IS"
    ∷ codes "AND" ∷ codes "OR" ∷ codes "NOT" ∷ codes "NULL" ∷ codes "MISSING" ∷ codes "TRUE" ∷ codes "FALSE"
    ∷ codes "LIKE" ∷ codes "BETWEEN"
    ∷ codes "JOIN" ∷ codes "INNER" ∷ codes "CROSS" ∷ codes "ON" ∷ codes "INSERT" ∷ codes "INTO" ∷ codes "UPDATE"
    ∷ codes "SET" ∷ codes "REMOVE"
    ∷ codes "DELETE" ∷ codes "CREATE" ∷ codes "DROP" ∷ codes "TABLE" ∷ codes "INDEX" ∷ codes "COUNT" ∷ codes "SUM"
    ∷ codes "MIN" ∷ codes "MAX"
    ∷ codes "COALESCE" ∷ codes "SIZE" ∷ codes "CHAR_LENGTH" ∷ codes "EXEC" ∷ codes "REDACT_REVISION" ∷ []

unfoldable pub is_reserved : List ℕ → Bool
is_reserved text = list_any (str_eq_ignore_ascii_case text) reserved

-- whether a token is this word
abbrev pub is_word : List ℕ → Token → Bool
is_word word (token.Word text) = str_eq_ignore_ascii_case text word
is_word word _ = false

-- whether a token is the symbol that is spelled so
abbrev pub is_symbol : List ℕ → Token → Bool
is_symbol text (token.Symbol s) = bytes_eq (spelling s) text
is_symbol text _ = false

-- the name that a token is, where it is one
abbrev pub name_of : Token → Option (List ℕ)
name_of (token.Word text) = if is_reserved text then None else Some text
name_of (token.Quoted text) = Some text
name_of _ = None

-- the same behind a point, where a reserved word is a name
abbrev pub any_name_of : Token → Option (List ℕ)
any_name_of (token.Word text) = Some text
any_name_of (token.Quoted text) = Some text
any_name_of _ = None
