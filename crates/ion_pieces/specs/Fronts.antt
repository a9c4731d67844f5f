-- The front of a text whose rest isn't there yet (Ion 1.0, "Text encoding", white space).
use Rattle.std.specs.Prelude.{◌≡◌, ◌≤◌, ◌<◌, ◌+◌, ◌==◌, ◌&&◌, nat_lt, ℕ, Bool, true, false, List, [], ◌∷◌, ◌++◌, length, drop}
use Rattle.ion_model.specs.Blanks.{is_space}
use Rattle.ion_model.specs.Lex.{lex}
use Rattle.ion_model.specs.Read.{run, refused}
use Rattle.ion_model.specs.Spans.{span_of}
use Rattle.ion_model.specs.Table.{Open}
use Rattle.ion_model.specs.declared.Lexed.{Lexed}
use Rattle.ion_model.specs.declared.Lexed.TheVariants as lexed
use Rattle.ion_text.specs.Stream.{open_of}
use Rattle.ion_text.specs.declared.stream.reader.Reader.{Reader}
use Rattle.ion_pieces.specs.declared.tokens.Stop.{Stop}
use Rattle.ion_pieces.specs.declared.tokens.Stop.TheVariants as stop

-- ---- bytes that end in white space

pub record EndsWhite (z : List ℕ) : Type 0 where
  pub before : List ℕ
  pub white : ℕ
  pub is : is_space white ≡ true
  pub ends : z ≡ before ++ white ∷ []

-- a front ends in white space unless it is the whole text
abbrev pub IsFront : Bool → List ℕ → Type 0
IsFront true z = Unit {0}
IsFront false z = EndsWhite z

-- nothing follows the whole text
abbrev pub MayFollow : Bool → List ℕ → Type 0
MayFollow true more = more ≡ []
MayFollow false more = Unit {0}

-- ---- tokens

-- a comment that ends where a text of length `len` ends may go on after it
abbrev pub may_go_on : Lexed → ℕ → Bool
may_go_on (lexed.Blank more) len = nat_lt 0 more && more + 1 == len
may_go_on _ len = false

-- what stands in front, whatever follows; if the whole text is given, `Cut` is what the lexer says of it
abbrev pub Stands : Bool → List ℕ → Lexed → Type 0
Stands whole z lexed.Cut = whole ≡ true → lex z ≡ lexed.Cut
Stands whole z l = (span_of l ≤ length z) × ((more : List ℕ) → MayFollow whole more → lex (z ++ more) ≡ l)

-- whatever follows, these containers are open after the first `passed` bytes, or the text is refused at `place`
abbrev pub Stops : ℕ → Open → Bool → List ℕ → Stop → Type 0
Stops depth fs whole z (stop.Waits frames passed) =
    (passed ≤ length z)
    × ((at : ℕ) (more : List ℕ) → MayFollow whole more →
    run depth 0 at fs (z ++ more) ≡ run depth 0 (at + passed) (open_of frames.reader) (drop passed z ++ more))
    × (whole ≡ true → passed < length z → lex (drop passed z) ≡ lexed.Cut)
Stops depth fs whole z (stop.Refused place kind) =
    (at : ℕ) (more : List ℕ) → MayFollow whole more → run depth 0 at fs (z ++ more) ≡ refused (at + place) kind

-- the containers of a reader wait after the first `passed` bytes
abbrev pub WaitsWith : Reader → ℕ → Stop → Type 0
WaitsWith reader passed (stop.Waits frames n) = (frames.reader ≡ reader) × (n ≡ passed)
WaitsWith reader passed (stop.Refused place kind) = ⊥
