-- The calls of a tail and of its transactions as events of the machine of all interleavings: what they return is what
-- the machine returns, and what they leave is what it leaves. A begin or a statement that runs out of memory is no
-- event.
use Rattle.std.specs.Prelude.{◌≡◌, ◌+◌, ◌<◌, ◌≤◌, ◌^◌, ◌⊎◌, ℕ, ℤ, true, false, List, length, take, Option, Some, None, Result, Ok, Err}
use Rattle.ion_values.specs.declared.time.TimeParts.{TimeParts}
use Rattle.pql_model.specs.declared.Answer as model
use Rattle.ql_types.specs.declared.Hash32.{Hash32}
use Rattle.ql_types.specs.declared.Place.{Place}
use Rattle.ledger_model.specs.declared.block.Block.{Block}
use Rattle.ledger_model.specs.declared.outcome.Refusal.{Refusal}
use Rattle.ledger_model.specs.declared.outcome.Refusal.TheVariants.{OutOfMemory}
use Rattle.ledger_model.specs.declared.script.Request.{Request}
use Rattle.ledger_model.specs.Legal.{asked_in}
use Rattle.ledger_model.specs.Run.{Ran, ran, refused}
use Rattle.ledger_model.specs.State.{state}
use Rattle.laws_machine.specs.Machine.{Answer, Commit, Machine, Transaction, begin, begun, commit, conflicts, differs, ended, ends, execute, fails, full, happens, named, refuses, rows, seals, spent}
use Rattle.laws_history.specs.Standings.{Standing}
use Rattle.txn_core.specs.Opened.{Executed, Opened}
use Rattle.ledger_core.specs.declared.appending.Receipt.{Receipt}
use Rattle.ledger_core.specs.declared.begin.BeginFault.TheVariants as begins
use Rattle.ledger_core.specs.declared.commit.CommitFault.{CommitFault}
use Rattle.ledger_core.specs.declared.commit.CommitFault.TheVariants as fault
use Rattle.ledger_core.specs.NextBlock.{receipt_of}
use Rattle.ledger_core.specs.Beginning.{IsBeginFault, begun_on, drawn}
use Rattle.ledger_core.specs.Committing.{CommitEnds, IsAnswer, IsOpenOn}

-- the machine has the tail's mask, blocks and last number
pub record StandsFor (m : Machine) (s : Standing) : Type 0 where
  pub mask : m.mask ≡ s.mask
  pub blocks : m.blocks ≡ s.blocks
  pub last : m.last ≡ s.last

-- this is what the transaction's statements came to
abbrev pub CameTo : Opened → Ran → Type 0
CameTo t (ran p) = (t.ended ≡ false) × (t.done ≡ p)
CameTo t (refused statement cause) = t.ended ≡ true

-- the transaction is open there
pub record IsUnderway (m : Machine) (t : Opened) : Type 0 where
  pub own : Transaction
  pub names : named t.begun.number m.underway ≡ Some own
  pub number : own.number ≡ t.begun.number
  pub mask : m.mask ≡ t.begun.mask
  pub place : own.place ≡ t.place
  pub since : own.since ≡ t.since
  pub stood : own.since ≤ length m.blocks
  pub base : state (take own.since m.blocks) ≡ t.base
  pub asked : t.ended ≡ false → own.asked ≡ asked_in t.done.said
  pub came : CameTo t own.done

-- the other transactions that are open stay open
abbrev pub LeavesOpen : Machine → ℕ → Machine → Type 0
LeavesOpen m number now =
    (other : Opened) → (other.begun.number ≡ number → ⊥) → IsUnderway m other → IsUnderway now other

-- ---- begin

pub record Began (m : Machine) (s : Standing) (place : Place) : Type 0 where
  pub answer : (happens m (begin place)).answer ≡ begun (s.last + 1) (length s.blocks)
  pub stands : StandsFor (happens m (begin place)).now (drawn s)
  pub underway : IsUnderway (happens m (begin place)).now (begun_on s place)
  pub others : LeavesOpen m (s.last + 1) (happens m (begin place)).now

abbrev pub BeginIsStep : Type 0
BeginIsStep =
    (m : Machine) (s : Standing) (place : Place) → StandsFor m s → s.last + 1 < 2 ^ 64 → Began m s place

-- no number is left
abbrev pub SpentIsStep : Type 0
SpentIsStep =
    (m : Machine) (s : Standing) (place : Place) → StandsFor m s → IsBeginFault s (begins.IdsSpent s.last)
    → happens m (begin place) ≡ record { answer = spent s.last; now = m }

-- ---- execute

-- the statement's answer is the machine's, and its transaction is what the machine leaves; or memory ran out and it
-- is as before
abbrev pub IsAnswered : Machine → Opened → Request → Result model.Answer Refusal → Opened → Type 0
IsAnswered m t r (Ok answer) now =
    ((happens m (execute t.begun.number r)).answer ≡ rows answer.rows)
    × IsUnderway (happens m (execute t.begun.number r)).now now
IsAnswered m t r (Err cause) now =
    ((cause ≡ OutOfMemory) × (now ≡ t))
    ⊎ (((happens m (execute t.begun.number r)).answer ≡ refuses cause)
    × IsUnderway (happens m (execute t.begun.number r)).now now)

pub record Executes (m : Machine) (t : Opened) (r : Request) (answer : Result model.Answer Refusal)
    (now : Opened) : Type 0 where
  pub answered : IsAnswered m t r answer now
  pub others : LeavesOpen m t.begun.number (happens m (execute t.begun.number r)).now

abbrev pub ExecuteIsStep : Type 0
ExecuteIsStep =
    (m : Machine) (t now : Opened) (r : Request) (answer : Result model.Answer Refusal)
    → IsUnderway m t → Executed t r answer now → Executes m t r answer now

-- a transaction that may be committed on a tail may be committed there after a statement, whatever the statement
-- returned
abbrev pub ExecuteKeepsOpen : Type 0
ExecuteKeepsOpen =
    (s : Standing) (t now : Opened) (r : Request) (answer : Result model.Answer Refusal)
    → IsOpenOn s t → Executed t r answer now → IsOpenOn s now

-- ---- commit

-- the commit ends as the machine's
abbrev pub TellsEnd : Result Receipt CommitFault → Answer → Type 0
TellsEnd (Ok receipt) a = (b : Block) × (a ≡ ends (seals b)) × (receipt ≡ receipt_of b)
TellsEnd (Err fault.EndedTxn) a = a ≡ ends ended
TellsEnd (Err (fault.DigestDiffers mine given)) a = a ≡ ends (differs mine given)
TellsEnd (Err (fault.Conflict since named)) a = a ≡ ends (conflicts since named)
TellsEnd (Err (fault.JournalFull blocks)) a = a ≡ ends (full blocks)
TellsEnd (Err (fault.StoreFault count)) a = (b : Block) × (a ≡ ends (fails count b))
TellsEnd (Err fault.OutOfMemory) a = Unit {0}

-- It is that of a commit with the digest, which leaves what the tail leaves, closes its transaction and leaves the
-- others open, also if memory ran out. A commit that is refused before it asks the clock has any time.
pub record Ended (m : Machine) (t : Opened) (digest : Hash32) (answer : Result Receipt CommitFault)
    (now : Standing) : Type 0 where
  pub event : Commit
  pub digest_is : event.digest ≡ digest
  pub tells : TellsEnd answer (happens m (commit t.begun.number event)).answer
  pub stands : StandsFor (happens m (commit t.begun.number event)).now now
  pub closed : named t.begun.number (happens m (commit t.begun.number event)).now.underway ≡ None
  pub others : LeavesOpen m t.begun.number (happens m (commit t.begun.number event)).now

abbrev pub CommitIsStep : Type 0
CommitIsStep =
    (m : Machine) (s : Standing) (t : Opened) (digest : Hash32) (before after : Option (List ℤ)) (always : Option ℤ)
    (unasked : TimeParts) (answer : Result Receipt CommitFault) (now : Standing)
    → StandsFor m s → IsUnderway m t → CommitEnds s t (Some digest) (IsAnswer before after always) answer now
    → Ended m t digest answer now
