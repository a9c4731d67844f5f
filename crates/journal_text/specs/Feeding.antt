-- A journal that is read a piece at a time, however it is cut into pieces: of a piece are taken the bytes up to and
-- with the first line feed, or all of it.
use Rattle.std.specs.Prelude.{◌≡◌, ℕ, true, List, [], ◌∷◌, ◌++◌, length, Option, Some, None, IfSome, Result, Ok, Err}
use Rattle.ledger_model.specs.declared.block.Block.{Block}
use Rattle.ledger_model.specs.Journal.{journal_bytes}
use Rattle.ledger_model.specs.Damages.{damage_behind, Undamaged}
use Rattle.ledger_model.specs.Recovered.{has_no_line_feed, IsLineOf}
use Rattle.journal_text.specs.declared.registry.Registry.{Registry}
use Rattle.journal_text.specs.declared.journal.JournalFault.{JournalFault}
use Rattle.journal_text.specs.declared.journal.JournalFault.TheVariants as fault
use Rattle.journal_text.specs.Reading.{StandsBehind}

-- the blocks of the whole lines so far, the bytes of the line that is begun, and the damage that ended the reading
pub record ReadSoFar : Type 0 where
  pub blocks : List Block
  pub line : List ℕ
  pub damaged : Option JournalFault

-- the bytes that were taken
abbrev pub taken : ReadSoFar → List ℕ
taken r = journal_bytes r.blocks ++ r.line

-- damage ends a reading, and out of memory doesn't
abbrev pub lasting : JournalFault → Option JournalFault
lasting (fault.Damaged sequence kind) = Some (fault.Damaged sequence kind)
lasting fault.OutOfMemory = None

-- the damage that ends a reading with this answer
abbrev pub damage_in : {A : Type 0} → Result A JournalFault → Option JournalFault
damage_in (Ok x) = None
damage_in (Err fault) = lasting fault

-- nothing more was taken
pub record SameTaken (old new : ReadSoFar) : Type 0 where
  pub blocks : new.blocks ≡ old.blocks
  pub line : new.line ≡ old.line

-- one block more, whose line this is
pub record IsOneMore (old new : List Block) (text : List ℕ) : Type 0 where
  pub block : Block
  pub more : new ≡ old ++ block ∷ []
  pub line : IsLineOf text block
  pub undamaged : damage_behind old block ≡ None

-- what a reader keeps true: its registry, if it has one, is of its blocks, and `size` counts their lines' bytes
pub record IsReader (blocks : List Block) (line : List ℕ) (registry : Option Registry) (size : ℕ) : Type 0 where
  pub undamaged : Undamaged blocks
  pub torn : has_no_line_feed line ≡ true
  pub stands : IfSome registry (StandsBehind blocks)
  pub long : size ≡ length (journal_bytes blocks)
