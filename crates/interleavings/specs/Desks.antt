-- The transactions that are open on a tail, each with its name, and what an event does to them and to the tail. A
-- transaction that does a statement comes to stand behind the others.
use Rattle.std.specs.Prelude.{◌≡◌, ◌⊎◌, ℕ, ◌+◌, ◌-◌, ◌^◌, ◌<◌, Bool, List, [], ◌∷◌, ◌++◌, length, take, drop, slice_index_or, Option, Some, None, Result, Ok, Err, if◌then◌else◌}
use Rattle.std.specs.List.{AllByRecursion}
use Rattle.std.specs.Str.{bytes_eq}
use Rattle.ion_values.specs.declared.value.Value.{Value}
use Rattle.ql_types.specs.declared.Hash32.{Hash32}
use Rattle.ql_types.specs.declared.Place.{Place}
use Rattle.outside.specs.Clocks.{ClockHeld, told_answers}
use Rattle.outside.specs.StoreForms.{StoreHeld}
use Rattle.pql_model.specs.declared.Answer.{Answer}
use Rattle.ledger_model.specs.declared.outcome.Refusal.{Refusal}
use Rattle.laws_history.specs.Standings.{Standing}
use Rattle.txn_core.specs.Opened.{Executed, Opened, asked}
use Rattle.ledger_core.specs.declared.appending.Receipt.{Receipt}
use Rattle.ledger_core.specs.declared.commit.CommitFault.{CommitFault}
use Rattle.ledger_core.specs.declared.commit.CommitFault.TheVariants as fault
use Rattle.ledger_core.specs.Beginning.{begun_on, drawn}
use Rattle.ledger_core.specs.Committing.{CommitEnds, IsAnswer, IsOpenOn, own_digest, tx_of}
use Rattle.ledger_core.specs.Tails.{TailHeld}
use Rattle.interleavings.specs.declared.desk.OpenTxn.{OpenTxn}
use Rattle.interleavings.specs.declared.events.Event.{Event}
use Rattle.interleavings.specs.declared.events.Event.TheVariants.{Begin, Execute, Commit, Abort}
use Rattle.interleavings.specs.Lines as line

-- a tail over a store and a clock in memory
abbrev pub MemoryTail : Type 0
MemoryTail = TailHeld StoreHeld ClockHeld

-- ---- by name

abbrev pub has_name : List ℕ → OpenTxn → Bool
has_name name x = bytes_eq x.name name

-- the first transaction of this name
abbrev pub named : List ℕ → List OpenTxn → Option Opened
named name [] = None
named name (x ∷ xs) = if has_name name x then Some x.txn else named name xs

-- the others
abbrev pub without : List ℕ → List OpenTxn → List OpenTxn
without name [] = []
without name (x ∷ xs) = if has_name name x then xs else x ∷ without name xs

abbrev pub opened : List ℕ → Opened → OpenTxn
opened name t = record { name = name; txn = t }

-- there is none of this name
pub record IsNowhere (name : List ℕ) (xs : List OpenTxn) : Type 0 where
  pub none : named name xs ≡ None
  pub rest : without name xs ≡ xs

-- the first of this name stands at this index
pub record StandsAt (name : List ℕ) (xs : List OpenTxn) (at : ℕ) : Type 0 where
  pub inside : at < length xs
  pub found : (d : OpenTxn) → named name xs ≡ Some (slice_index_or xs at d).txn
  pub rest : without name xs ≡ take at xs ++ drop (at + 1) xs

-- ---- what holds of them between two events

-- the number isn't that of this transaction
abbrev pub IsAnother : Opened → OpenTxn → Type 0
IsAnother t x = x.txn.begun.number ≡ t.begun.number → ⊥

abbrev pub AreApart : List OpenTxn → Type 0
AreApart [] = Unit {0}
AreApart (x ∷ xs) = AllByRecursion (IsAnother x.txn) xs × AreApart xs

-- each one is open on what stands, and no two have one number
pub record AreOpen (s : Standing) (xs : List OpenTxn) : Type 0 where
  pub each : AllByRecursion (λ x. IsOpenOn s x.txn) xs
  pub apart : AreApart xs

-- ---- a begin

-- the transaction of the next number stands behind the others
pub record Opens (t : MemoryTail) (xs : List OpenTxn) (name : List ℕ) (place : Place) (said : List ℕ) (now : MemoryTail)
    (ys : List OpenTxn) : Type 0 where
  pub counted : t.standing.last + 1 < 2 ^ 64
  pub said_is : said ≡ line.begun name (tx_of (begun_on t.standing place)).raw (length t.standing.blocks)
  pub now_is : now ≡ record t { standing = drawn t.standing }
  pub kept : ys ≡ without name xs ++ opened name (begun_on t.standing place) ∷ []

-- no number is left
pub record IsSpent (t : MemoryTail) (xs : List OpenTxn) (name : List ℕ) (said : List ℕ) (now : MemoryTail)
    (ys : List OpenTxn) : Type 0 where
  pub last : t.standing.last ≡ 2 ^ 64 - 1
  pub said_is : said ≡ line.ids_spent (2 ^ 64 - 1)
  pub now_is : now ≡ t
  pub kept : ys ≡ without name xs

abbrev pub Begins : MemoryTail → List OpenTxn → List ℕ → Place → List ℕ → MemoryTail → List OpenTxn → Type 0
Begins t xs name place said now ys = Opens t xs name place said now ys ⊎ IsSpent t xs name said now ys

-- ---- a statement

abbrev pub execute_line : Result Answer Refusal → List ℕ
execute_line (Ok a) = line.answer a.rows
execute_line (Err cause) = line.refused cause

-- the transaction does it, and stands behind the others
pub record Does (x : Opened) (t : MemoryTail) (xs : List OpenTxn) (name : List ℕ) (text : List ℕ) (params : List Value)
    (said : List ℕ) (now : MemoryTail)
    (ys : List OpenTxn) : Type 0 where
  pub answer : Result Answer Refusal
  pub left : Opened
  pub executed : Executed x (asked text params) answer left
  pub said_is : said ≡ execute_line answer
  pub now_is : now ≡ t
  pub kept : ys ≡ without name xs ++ opened name left ∷ []

-- nothing is done, for want of a transaction of this name
pub record DoesNothing (t : MemoryTail) (xs : List OpenTxn) (name : List ℕ) (said : List ℕ) (now : MemoryTail)
    (ys : List OpenTxn) : Type 0 where
  pub said_is : said ≡ line.nothing name
  pub now_is : now ≡ t
  pub kept : ys ≡ without name xs

abbrev pub Executes : Option Opened → MemoryTail → List OpenTxn → List ℕ → List ℕ → List Value → List ℕ → MemoryTail →
    List OpenTxn → Type 0
Executes None t xs name text params said now ys = DoesNothing t xs name said now ys
Executes (Some x) t xs name text params said now ys = Does x t xs name text params said now ys

-- ---- a commit

-- the digest that is sent: its own, or the one that is given
abbrev pub sent : Opened → Option Hash32 → Hash32
sent x None = own_digest x
sent x (Some digest) = digest

-- out of memory has no line
abbrev pub commit_line : List ℕ → List ℕ → Result Receipt CommitFault → List ℕ
commit_line name items (Ok receipt) = line.committed receipt.block receipt.hash receipt.time items
commit_line name items (Err fault.EndedTxn) = line.ended name
commit_line name items (Err (fault.DigestDiffers mine given)) = line.digest_differs mine given
commit_line name items (Err (fault.Conflict since named)) = line.conflict since named items
commit_line name items (Err (fault.JournalFull blocks)) = line.journal_full blocks
commit_line name items (Err (fault.StoreFault count)) = line.store_fault count
commit_line name items (Err fault.OutOfMemory) = []

-- so it answers no event
abbrev pub IsServed : Result Receipt CommitFault → Type 0
IsServed (Err fault.OutOfMemory) = ⊥
IsServed _ = Unit {0}

-- how the commit ends at the tail, whose clock may have been asked
pub record Closes (x : Opened) (t : MemoryTail) (xs : List OpenTxn) (name : List ℕ) (digest : Option Hash32)
    (said : List ℕ) (now : MemoryTail)
    (ys : List OpenTxn) : Type 0 where
  pub answer : Result Receipt CommitFault
  pub ends : CommitEnds t.standing x (Some (sent x digest))
      (IsAnswer (told_answers t.clock) (told_answers now.clock) None) answer now.standing
  pub served : IsServed answer
  pub said_is : said ≡ commit_line name (line.footprint x.done.footprint) answer
  pub kept : ys ≡ without name xs

abbrev pub Commits : Option Opened → MemoryTail → List OpenTxn → List ℕ → Option Hash32 → List ℕ → MemoryTail →
    List OpenTxn → Type 0
Commits None t xs name digest said now ys = DoesNothing t xs name said now ys
Commits (Some x) t xs name digest said now ys = Closes x t xs name digest said now ys

-- ---- giving up

pub record Drops (t : MemoryTail) (xs : List OpenTxn) (name : List ℕ) (said : List ℕ) (now : MemoryTail)
    (ys : List OpenTxn) : Type 0 where
  pub said_is : said ≡ line.aborted name
  pub now_is : now ≡ t
  pub kept : ys ≡ without name xs

abbrev pub Aborts : Option Opened → MemoryTail → List OpenTxn → List ℕ → List ℕ → MemoryTail → List OpenTxn → Type 0
Aborts None t xs name said now ys = DoesNothing t xs name said now ys
Aborts (Some x) t xs name said now ys = Drops t xs name said now ys

-- ---- an event

-- what an event does, and the line that answers it
abbrev pub Answers : MemoryTail → List OpenTxn → Event → List ℕ → MemoryTail → List OpenTxn → Type 0
Answers t xs (Begin name place) said now ys = Begins t xs name place said now ys
Answers t xs (Execute name text params) said now ys = Executes (named name xs) t xs name text params said now ys
Answers t xs (Commit name digest) said now ys = Commits (named name xs) t xs name digest said now ys
Answers t xs (Abort name) said now ys = Aborts (named name xs) t xs name said now ys

-- a line is put that is so
abbrev pub Puts : List ℕ → List ℕ → (List ℕ → Type 0) → Type 0
Puts before after P = (said : List ℕ) × (after ≡ before ++ said) × P said
