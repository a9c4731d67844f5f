-- Whatever events come to a machine, in whatever order, its blocks are one serial history, each accepted commit
-- stands in it once, and a conflict is named exactly where a later block touched what the transaction read.
use Rattle.std.specs.Prelude.{◌≡◌, ℕ, true, List, [], ◌∷◌, ◌++◌, length, map, take, Option, Some, None}
use Rattle.std.specs.List.{AllByRecursion}
use Rattle.ql_types.specs.Ids.{raw_id}
use Rattle.ledger_model.specs.declared.block.Block.{Block}
use Rattle.ledger_model.specs.declared.outcome.Named.{Named}
use Rattle.ledger_model.specs.Damages.{Undamaged, same_hash}
use Rattle.ledger_model.specs.Follows.{all_differ}
use Rattle.ledger_model.specs.Legal.{Legal}
use Rattle.ledger_model.specs.Making.{IsMadeOf}
use Rattle.ledger_model.specs.Run.{Progress, ran, run}
use Rattle.laws_validity.specs.Before.{HasStrand}
use Rattle.laws_footprint.specs.Conflicts.{IsFirst}
use Rattle.laws_footprint.specs.Touches.{conflict}
use Rattle.laws_machine.specs.Machine.{Answer, Commit, Ending, Event, Machine, Transaction, base, begun_as, behind, commit, conflicts, ends, ending, fails, happens, named, opened, own_digest, seals, wants}
use Rattle.laws_machine.specs.Ranges.{AllFit, IsOpening}

-- ---- the blocks

-- these blocks go on from those, on the strand of the mask: each new one is what its transaction means at its place,
-- and all of them are sealed, chained and undamaged
pub record IsHistory (mask : ℕ) (before after : List Block) : Type 0 where
  pub begins : take (length before) after ≡ before
  pub legal : Legal mask after (length before)
  pub undamaged : Undamaged after
  pub strand : HasStrand mask after

abbrev pub HistoryStaysLegal : Type 0
HistoryStaysLegal =
    (mask : ℕ) (before : List Block) (events : List Event)
    → IsOpening mask before → AllFit events (opened mask before)
    → IsHistory mask before (behind events (opened mask before)).blocks

-- ---- accepted commits

-- the number that the commit named, and the block that was sealed
pub record Accepted : Type 0 where
  pub number : ℕ
  pub block : Block

abbrev pub accepted_by : Event → Answer → List Accepted
accepted_by (commit number c) (ends (seals block)) = record { number = number; block = block } ∷ []
accepted_by _ _ = []

-- the accepted commits of these events in order
abbrev pub accepted : List Event → Machine → List Accepted
accepted [] m = []
accepted (e ∷ es) m = accepted_by e (happens m e).answer ++ accepted es (happens m e).now

-- the block has its own transaction's id
abbrev pub HasOwnId : ℕ → Accepted → Type 0
HasOwnId mask a = a.block.header.tx.raw ≡ raw_id mask a.number 0

abbrev pub block_ids : List Block → List ℕ
block_ids blocks = map (λ (b : Block). b.header.tx.raw) blocks

-- the new blocks are those of the accepted commits, in order, each under its own id, and no two blocks have one id
pub record StandOnce (mask : ℕ) (before after : List Block) (commits : List Accepted) : Type 0 where
  pub in_order : after ≡ before ++ map (λ (a : Accepted). a.block) commits
  pub own : AllByRecursion (HasOwnId mask) commits
  pub once : all_differ (block_ids after) ≡ true

abbrev pub CommitsStandOnce : Type 0
CommitsStandOnce =
    (mask : ℕ) (before : List Block) (events : List Event)
    → IsOpening mask before → AllFit events (opened mask before)
    → StandOnce mask before (behind events (opened mask before)).blocks (accepted events (opened mask before))

-- ---- what statements come to

-- what the transaction's statements came to is the run of what it was asked, on the blocks at its begin
abbrev pub IsRunOnBase : Machine → Transaction → Type 0
IsRunOnBase m t = run (begun_as m t) (base m t) t.asked ≡ t.done

abbrev pub ExecuteIsRun : Type 0
ExecuteIsRun =
    (mask : ℕ) (before : List Block) (events : List Event)
    → AllByRecursion (IsRunOnBase (behind events (opened mask before))) (behind events (opened mask before)).underway

-- ---- how a commit ends

-- a machine that comes of such events, with an open transaction that a commit names
pub record Reached (m : Machine) (number : ℕ) (t : Transaction) : Type 0 where
  pub mask : ℕ
  pub before : List Block
  pub events : List Event
  pub opening : IsOpening mask before
  pub fit : AllFit events (opened mask before)
  pub is : m ≡ behind events (opened mask before)
  pub names : named number m.underway ≡ Some t

-- the transaction's statements were all done, the digest is its own, and this is the first block behind its begin
-- that touches something that they read
pub record IsInConflict (m : Machine) (t : Transaction) (c : Commit) (since : ℕ) (found : Named) : Type 0 where
  pub progress : Progress
  pub runs : run (begun_as m t) (base m t) t.asked ≡ ran progress
  pub digest : same_hash (own_digest m t) c.digest ≡ true
  pub since_is : t.since ≡ since
  pub finds : conflict m.blocks since progress.footprint ≡ Some found
  pub first : IsFirst m.blocks since progress.footprint found

pub record ConflictTells (m : Machine) (number : ℕ) (t : Transaction) (c : Commit) : Type 0 where
  pub only : (since : ℕ) (found : Named) → (happens m (commit number c)).answer ≡ ends (conflicts since found)
      → IsInConflict m t c since found
  pub always : (since : ℕ) (found : Named) → IsInConflict m t c since found
      → (happens m (commit number c)).answer ≡ ends (conflicts since found)

abbrev pub ConflictComesExactly : Type 0
ConflictComesExactly =
    (m : Machine) (number : ℕ) (t : Transaction) (c : Commit) → Reached m number t → ConflictTells m number t c

-- the block with which a commit comes to its store
abbrev pub block_in : Ending → Option Block
block_in (wants o) = o
block_in (fails count block) = Some block
block_in (seals block) = Some block
block_in _ = None

-- it is the block of the transaction's statements behind all blocks, whether it is sealed or the store refuses it
abbrev pub CommitIsMade : Type 0
CommitIsMade =
    (m : Machine) (number : ℕ) (t : Transaction) (c : Commit) (block : Block) → Reached m number t
    → block_in (ending m c t t.done) ≡ Some block → IsMadeOf (begun_as m t) m.blocks t.place c.time t.asked block
