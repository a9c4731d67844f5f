-- What the reader of a journal answers, in the words of what the journal's bytes hold: it tells the blocks of all
-- whole lines, or the first line that is damaged.
use Rattle.std.specs.Prelude.{◌≡◌, ℕ, List, length}
use Rattle.ledger_model.specs.declared.block.Block.{Block}
use Rattle.ledger_model.specs.Damages.{strand_of}
use Rattle.ledger_model.specs.Recovered.{Fails, IsDamaged, IsDamagedLine}
use Rattle.journal_text.specs.declared.registry.Registry.{Registry}
use Rattle.journal_text.specs.declared.journal.JournalFault.{JournalFault}
use Rattle.journal_text.specs.declared.journal.JournalFault.TheVariants as fault
use Rattle.journal_text.specs.Stands.{Stands}

-- the registry is of these blocks, whatever block comes next
abbrev pub StandsBehind : List Block → Registry → Type 0
StandsBehind before r = (next : Block) → Stands (strand_of before next) before r

-- the line is damaged behind these blocks, unless memory ran out
abbrev pub IsRefused : List Block → List ℕ → JournalFault → Type 0
IsRefused before line (fault.Damaged sequence kind) = (sequence ≡ length before) × Fails before line kind
IsRefused before line fault.OutOfMemory = Unit {0}

-- the first damaged line of the journal, unless memory ran out
abbrev pub IsLineFault : List ℕ → JournalFault → Type 0
IsLineFault bytes (fault.Damaged sequence kind) = IsDamagedLine bytes sequence kind
IsLineFault bytes fault.OutOfMemory = Unit {0}

-- the first damage of the journal, unless memory ran out
abbrev pub IsFault : List ℕ → JournalFault → Type 0
IsFault bytes (fault.Damaged sequence kind) = IsDamaged bytes sequence kind
IsFault bytes fault.OutOfMemory = Unit {0}
