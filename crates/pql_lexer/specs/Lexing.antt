-- What the lexer in code gives, beside the definitions of the tokens.
use Rattle.std.specs.Prelude.{◌≡◌, ℕ, ◌+◌, List}
use Rattle.pql_model.specs.declared.token.Lexed.{Lexed}
use Rattle.pql_model.specs.declared.token.Lexed.TheVariants as lexed
use Rattle.pql_model.specs.declared.token.Token.{Token}
use Rattle.pql_model.specs.declared.token.Token.TheVariants as token
use Rattle.pql_lexer.specs.declared.quoted.Quote.{Quote}
use Rattle.pql_lexer.specs.declared.quoted.Quote.TheVariants as quote

-- how many bytes are read
abbrev pub span_of : Lexed → ℕ
span_of (lexed.Blank more) = more + 1
span_of (lexed.Token t more) = more + 1
span_of (lexed.Refused k) = 0

-- a `?` has this number
abbrev pub IsNumbered : ℕ → Lexed → Type 0
IsNumbered asked (lexed.Token (token.Parameter n) more) = n ≡ asked
IsNumbered asked _ = Unit {0}

abbrev pub mark_of : Quote → ℕ
mark_of quote.Name = 34
mark_of quote.String = 39

abbrev pub token_of : Quote → List ℕ → Token
token_of quote.Name text = token.Quoted text
token_of quote.String text = token.String text

-- how many `?` stand before what follows a token
abbrev pub asked_behind : ℕ → Token → ℕ
asked_behind asked (token.Parameter n) = n + 1
asked_behind asked _ = asked
