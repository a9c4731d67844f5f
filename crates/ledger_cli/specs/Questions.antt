-- What comes of a question to the journal.
use Rattle.std.specs.Prelude.{List, ℕ, Result, Ok, Err}
use Rattle.ledger_model.specs.declared.block.Block.{Block}
use Rattle.outside.specs.Told.{StoreTold}
use Rattle.laws_history.specs.Calls.{Span}
use Rattle.cli_model.specs.declared.Question.{Question}
use Rattle.cli_model.specs.Journals.{Answers, HasNone}
use Rattle.cli_model.specs.Stores.{HasFailed, IsUnchanged, IsUnfailed, Reads, ReadsDamage}
use Rattle.ledger_cli.specs.declared.command_fault.CommandFault.{CommandFault}
use Rattle.ledger_cli.specs.declared.command_fault.CommandFault.TheVariants as stop

-- the journal was read, and the text answers the question
pub record IsAnswered (question : Question) (store : Span StoreTold) (text : List ℕ) : Type 0 where
  pub blocks : List Block
  pub reads : Reads store blocks
  pub answers : Answers question blocks text

-- it has no answer, or the journal is damaged or wasn't read; if memory ran out, the store didn't fail
abbrev pub IsUnanswered : Question → Span StoreTold → CommandFault → Type 0
IsUnanswered question store stop.BadWords = ⊥
IsUnanswered question store (stop.BadInput cause) = ⊥
IsUnanswered question store (stop.NoSuch why) = (blocks : List Block) × Reads store blocks × HasNone question blocks why
IsUnanswered question store (stop.Damaged sequence kind) = ReadsDamage store sequence kind
IsUnanswered question store stop.SourceFailed = ⊥
IsUnanswered question store stop.StoreFailed = HasFailed store
IsUnanswered question store (stop.NotEmpty blocks) = ⊥
IsUnanswered question store (stop.BadRange from to) = ⊥
IsUnanswered question store (stop.NotAccepted fault) = ⊥
IsUnanswered question store stop.NotPublished = ⊥
IsUnanswered question store stop.OutOfMemory = IsUnfailed store

abbrev pub Comes : Question → Result (List ℕ) CommandFault → Span StoreTold → Type 0
Comes question (Ok text) store = IsAnswered question store text
Comes question (Err why) store = IsUnanswered question store why

-- and the store's content is as before
abbrev pub Tells : Question → Result (List ℕ) CommandFault → Span StoreTold → Type 0
Tells question came store = Comes question came store × IsUnchanged store
