-- What the reader of texts between quotes returns, as the definitions have it.
use Rattle.std.specs.Prelude.{ℕ, List, [], ◌∷◌}
use Rattle.std.specs.Char.{encode_utf8}
use Rattle.ion_model.specs.Escapes.{Piece, piece}
use Rattle.ion_lexer.specs.declared.escapes.Given.{Given}
use Rattle.ion_lexer.specs.declared.escapes.Given.TheVariants as given
use Rattle.ion_lexer.specs.declared.escapes.Piece.{Piece as ReadPiece}

abbrev pub bytes_of : Given → List ℕ
bytes_of given.Nothing = []
bytes_of (given.Byte b) = b ∷ []
bytes_of (given.Character c) = encode_utf8 c

abbrev pub piece_of : ReadPiece → Piece
piece_of p = piece p.more (bytes_of p.given)
