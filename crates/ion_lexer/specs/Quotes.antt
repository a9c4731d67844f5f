-- What the kinds of quotes stand for in the definitions (Ion 1.0 text, "Strings", "Symbols" and "Clobs").
use Rattle.std.specs.Prelude.{ℕ, Bool, true, not, ◌==◌, ◌&&◌, List, codes, Option}
use Rattle.std.specs.Str.{byte}
use Rattle.ion_model.specs.Escapes.{Piece, text_escape, clob_escape}
use Rattle.ion_model.specs.Texts.{long, may_stand, short}
use Rattle.ion_model.specs.declared.Token.{Token}
use Rattle.ion_model.specs.declared.Token.TheVariants as token
use Rattle.ion_lexer.specs.declared.texts.Quotes.{Quotes}
use Rattle.ion_lexer.specs.declared.texts.Quotes.TheVariants as quotes
use Rattle.ion_lexer.specs.declared.texts.Content.{Content}
use Rattle.ion_lexer.specs.declared.texts.Content.TheVariants as content

abbrev pub marks_of : Quotes → List ℕ
marks_of quotes.Double = codes "\""
marks_of quotes.Single = codes "'"
marks_of quotes.Triple = codes "'''"

abbrev pub token_of : Quotes → List ℕ → Token
token_of quotes.Double text = token.String text
token_of quotes.Single text = token.Symbol text true
token_of quotes.Triple text = token.Segment text

abbrev pub escape_of : Content → List ℕ → Option Piece
escape_of content.Text = text_escape
escape_of content.Clob = clob_escape

-- the piece in front between such quotes
abbrev pub front_of : Quotes → Content → ℕ → List ℕ → Option Piece
front_of quotes.Double c = short (escape_of c)
front_of quotes.Single c = short (escape_of c)
front_of quotes.Triple c = long (escape_of c)

-- a byte that gives itself, whatever follows it
abbrev pub is_plain : Quotes → ℕ → Bool
is_plain quotes.Double b = not (b == byte "\\") && may_stand b
is_plain quotes.Single b = not (b == byte "\\") && may_stand b
is_plain quotes.Triple b = not (b == byte "\\") && not (b == 13)

-- the first of the closing quotes
abbrev pub mark_of : Quotes → ℕ
mark_of quotes.Double = byte "\""
mark_of quotes.Single = byte "'"
mark_of quotes.Triple = byte "'"

-- a byte that gives itself and begins no closing quotes
abbrev pub is_inner : Quotes → ℕ → Bool
is_inner q b = is_plain q b && not (b == mark_of q)
