-- What holds of the texts between quotes (Ion 1.0 text, "Strings" and "Symbols").
use Rattle.std.specs.Prelude.{ℕ, ◌≡◌, true, false, List, codes, take, Option, Some}
use Rattle.std.specs.Str.{is_utf8}
use Rattle.ion_model.specs.Escapes.{Piece, text_escape}
use Rattle.ion_model.specs.Texts.{before, long, pieces, short}

-- behind such opening quotes, in a text that is UTF-8, what stands before the closing ones gives a text that is UTF-8
abbrev pub GivesUtf8 : List ℕ → (ℕ → List ℕ → Option Piece) → Type 0
GivesUtf8 quotes front =
    (z text : List ℕ) (len : ℕ) → is_utf8 z ≡ true → before quotes false z ≡ Some len →
    pieces front 0 (take len z) ≡ Some text
    → is_utf8 text ≡ true

-- So a string, a quoted symbol or a segment in a text that is UTF-8 is refused for an ill-formed piece alone.
abbrev pub TextsAreUtf8 : Type 0
TextsAreUtf8 =
    GivesUtf8 (codes "\"") (short text_escape) × GivesUtf8 (codes "'") (short text_escape)
    × GivesUtf8 (codes "'''") (long text_escape)
