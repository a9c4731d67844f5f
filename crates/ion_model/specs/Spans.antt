-- How many bytes a token, white space or a comment takes (Ion 1.0, "Text encoding"). It is never more than there are,
-- which each lexer promises: `span_of` of what it gives is at most the length of the text that it was given.
use Rattle.std.specs.Prelude.{ℕ, ◌+◌}
use Rattle.ion_model.specs.declared.Lexed.{Lexed}
use Rattle.ion_model.specs.declared.Lexed.TheVariants as lexed

abbrev pub span_of : Lexed → ℕ
span_of (lexed.Blank more) = more + 1
span_of (lexed.Token t more) = more + 1
span_of (lexed.Refused k) = 0
span_of lexed.Cut = 0
