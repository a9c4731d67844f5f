-- Lines of a piece of a journal that were read each by itself, and what is taken of the piece by them.
use Rattle.std.specs.Prelude.{◌≡◌, ◌≤◌, ◌+◌, ℕ, true, List, [], ◌∷◌, ◌++◌, take, drop, length, All, None}
use Rattle.ledger_model.specs.Recovered.{has_no_line_feed}
use Rattle.journal_text.specs.declared.journal.JournalFault.{JournalFault}
use Rattle.journal_text.specs.declared.shares.ReadLine.{ReadLine}
use Rattle.journal_text.specs.Feeding.{ReadSoFar, taken}
use Rattle.journal_text.specs.Lines.{IsLineRead}
use Rattle.journal_text.specs.Reading.{IsLineFault}

-- the text of `len` bytes stands at this place of the piece, with the first line feed behind it, and was read
pub record IsReadIn (piece : List ℕ) (l : ReadLine) : Type 0 where
  pub text : List ℕ
  pub long : length text ≡ l.len
  pub within : l.from ≤ length piece
  pub one_line : has_no_line_feed text ≡ true
  pub stands : drop l.from piece ≡ text ++ 10 ∷ drop (length text + 1) (drop l.from piece)
  pub read : IsLineRead (text ++ 10 ∷ []) l.found

abbrev pub AreReadIn : List ℕ → List ReadLine → Type 0
AreReadIn piece lines = All (IsReadIn piece) lines

-- of the piece, whose first `at` bytes were taken behind some others, the first `to` bytes are taken
pub record IsTakenTo (piece : List ℕ) (at to : ℕ) (old new : ReadSoFar) : Type 0 where
  pub within : to ≤ length piece
  pub taken : (before : List ℕ) → taken old ≡ before ++ take at piece → taken new ≡ before ++ take to piece
  pub reads : new.damaged ≡ None

-- however the bytes go on behind the piece, this is their first damaged line, unless memory ran out
abbrev pub IsFaultIn : List ℕ → ℕ → ReadSoFar → JournalFault → Type 0
IsFaultIn piece at old fault =
    (before rest : List ℕ) → taken old ≡ before ++ take at piece → IsLineFault (before ++ (piece ++ rest)) fault
