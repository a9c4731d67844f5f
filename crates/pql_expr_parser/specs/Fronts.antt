-- What a single token is, where no production of the grammar says it alone.
use Rattle.std.specs.Prelude.{ℕ, List, Option, Some, None}
use Rattle.pql_model.specs.declared.token.Token.{Token}
use Rattle.pql_model.specs.declared.token.Token.TheVariants as token
use Rattle.pql_model.specs.Words.{any_name_of}
use Rattle.pql_model.specs.Productions.{Production, by_name, give, past, token_of}

-- a name behind a point
abbrev pub any_name : Production (List ℕ)
any_name r = by_name (λ text. past (give text)) (any_name_of (token_of r)) r

-- the string that a token is
abbrev pub string_of : Token → Option (List ℕ)
string_of (token.String text) = Some text
string_of _ = None
