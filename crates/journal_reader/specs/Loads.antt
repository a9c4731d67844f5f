-- Why the journal of a store was not loaded, and what was loaded.
use Rattle.std.specs.Prelude.{◌≡◌, ℕ, Bool, false, ◌↔◌, List, [], Option, IfSome}
use Rattle.ledger_model.specs.declared.block.Block.{Block}
use Rattle.ledger_model.specs.Recovered.{IsJournal, IsDamaged}
use Rattle.outside.specs.Told.{StoreTold, held}
use Rattle.outside.specs.declared.traits.OutFault.{OutFault}
use Rattle.outside.specs.declared.traits.OutFault.TheVariants as out
use Rattle.journal_text.specs.declared.journal.JournalFault.{JournalFault}
use Rattle.journal_text.specs.declared.journal.JournalFault.TheVariants as journal
use Rattle.journal_reader.specs.declared.cause.LoadCause.{LoadCause}
use Rattle.journal_reader.specs.declared.cause.LoadCause.TheVariants as cause
use Rattle.journal_reader.specs.Faults.{IsStoreFault}

-- the bytes are the lines of these blocks and a rest that is no whole line, and it is marked where there is one
abbrev pub IsRead : List ℕ → List Block → Bool → Type 0
IsRead bytes blocks marked = (rest : List ℕ) × IsJournal bytes blocks rest × ((marked ≡ false) ↔ (rest ≡ []))

-- the same of the store's bytes, where it tells them
abbrev pub IsLoaded : Option (List ℕ) → List Block → Bool → Type 0
IsLoaded held blocks marked = IfSome held (λ bytes. IsRead bytes blocks marked)

-- The journal's first damage was read in the store's bytes; or the store failed in its last call and then had failed so
-- often; or memory was wanted. But for the second it had not failed.
abbrev pub IsCause : LoadCause → StoreTold → StoreTold → Type 0
IsCause (cause.Damaged sequence kind) before after =
    IfSome (held before) (λ bytes. IsDamaged bytes sequence kind) × (after.faults ≡ before.faults)
IsCause (cause.StoreFault count) before after = IsStoreFault count before after
IsCause cause.OutOfMemory before after = after.faults ≡ before.faults

-- the journal's fault as the cause of the load's
abbrev pub cause_of : JournalFault → LoadCause
cause_of (journal.Damaged sequence kind) = cause.Damaged sequence kind
cause_of journal.OutOfMemory = cause.OutOfMemory

-- the store's fault as the cause, with how often the store has failed
abbrev pub cause_told : OutFault → ℕ → LoadCause
cause_told out.Failed count = cause.StoreFault count
cause_told out.OutOfMemory count = cause.OutOfMemory
