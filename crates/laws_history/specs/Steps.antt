-- A commit of the machine of events, seen from the pass that makes it: it ends an attempt at a job's transaction (the
-- ledger's own).
use Rattle.std.specs.Prelude.{◌≡◌, ℕ, false, List, [], ◌∷◌, take, None}
use Rattle.std.specs.Option.{unwrap_or}
use mathlib.Core.List.{IsPrefix}
use Rattle.ql_types.specs.declared.Hash32.{Hash32}
use Rattle.ql_types.specs.declared.Place.{Place}
use Rattle.ql_types.specs.declared.TxId.{TxId}
use Rattle.ledger_model.specs.CommitDigest.{commit_digest}
use Rattle.ledger_model.specs.declared.outcome.Outcome.{Outcome}
use Rattle.ledger_model.specs.declared.outcome.Outcome.TheVariants.{Committed, Conflict, DigestDiffers, JournalFull, OutOfMemory, StoreFault}
use Rattle.ledger_model.specs.declared.script.Job.{Job}
use Rattle.ledger_model.specs.Run.{Progress, ran}
use Rattle.turn_lock.specs.declared.view.Known.{Known}
use Rattle.turn_lock.specs.History.{with_entry, with_seen}
use Rattle.laws_machine.specs.Entries.{Entry, Opening, entry_of}
use Rattle.laws_machine.specs.History.{Reached}
use Rattle.laws_machine.specs.Machine.{Commit, Ending, Machine, Transaction, commit, conflicts, differs, ended, ending, ends, fails, full, receipt_of, seals, wants}
use Rattle.laws_history.specs.Attempts.{Attempted, Begins}
use Rattle.laws_history.specs.Seen.{blocks_in}

-- the digest that is sent: the one that the job gives, or else its transaction's own
abbrev pub sent : Job → TxId → Hash32
sent job tx = unwrap_or job.digest (commit_digest tx job.statements)

-- the outcome that tells the ending of a transaction which ran on the first `since` blocks
abbrev pub IsToldAs : TxId → (since : ℕ) → Ending → Outcome → Type 0
IsToldAs tx since ended x = ⊥
IsToldAs tx since (differs mine given) x = x ≡ DigestDiffers tx since mine given
IsToldAs tx since (conflicts from found) x = x ≡ Conflict tx from found
IsToldAs tx since (full blocks) x = x ≡ JournalFull tx blocks
IsToldAs tx since (wants block) x = x ≡ OutOfMemory
IsToldAs tx since (fails count block) x = x ≡ StoreFault tx count
IsToldAs tx since (seals block) x = x ≡ Committed tx (receipt_of block).block

-- what a pass knows behind a call with these entries in front, which made an entry or none
abbrev pub knows_behind : Known Entry → List Entry → List Entry → Known Entry
knows_behind k front [] = with_seen k front
knows_behind k front (e ∷ es) = with_entry (with_seen k front) e

-- The job's transaction, which has begun so for the pass, is open at a machine behind these entries. Its statements are
-- all done, and it is committed with the job's digest.
pub record IsCommitting (o : Opening) (job : Job) (place : Place) (k : Known Entry) (tx : TxId)
    (begun : Begins o place k tx) (front : List Entry) (m : Machine) (t : Transaction) (c : Commit) : Type 0 where
  pub reached : Reached m t.number t
  pub number : t.number ≡ begun.number
  pub since : t.since ≡ begun.since
  pub at : t.place ≡ place
  pub asked : t.asked ≡ job.statements
  pub mask : m.mask ≡ o.mask
  pub base : take t.since m.blocks ≡ blocks_in o begun.adds.front
  pub blocks : m.blocks ≡ blocks_in o front
  pub later : IsPrefix begun.now.seen front
  pub progress : Progress
  pub done : t.done ≡ ran progress
  pub digest : c.digest ≡ sent job tx
  pub commits : job.abort ≡ false
  pub admitted : job.denied ≡ None

-- the ending is told as an outcome, and with the entry that it leaves it is an attempt with that outcome
abbrev pub EndsAttempt : Opening → Job → Place → Known Entry → TxId → Known Entry → List Entry → Transaction → Commit
    → Ending → Type 0
EndsAttempt o job place k tx begun front t c e =
    (x : Outcome)
    × IsToldAs tx t.since e x
    × Attempted o k job place x (knows_behind begun front (entry_of (commit t.number c) (ends e)))

-- so is each commit of a machine, whatever other events came before
abbrev pub CommitsEndAttempts : Type 0
CommitsEndAttempts =
    (o : Opening) (job : Job) (place : Place) (k : Known Entry) (tx : TxId) (begun : Begins o place k tx)
    (front : List Entry) (m : Machine) (t : Transaction) (c : Commit)
    → IsCommitting o job place k tx begun front m t c
    → EndsAttempt o job place k tx begun.now front t c (ending m c t t.done)
