-- The commit of an open transaction, by what it returns. Its checks come in this order: whether it is ended, the digest
-- that is sent, whether a later block touched what it read, room for a block; then memory and the store.
use Rattle.std.specs.Prelude.{◌≡◌, ◌-◌, ◌^◌, ◌≤◌, ◌⊎◌, ℕ, ℤ, Bool, true, false, List, [], ◌∷◌, ◌++◌, length, fold, take, Option, Some, None, IfSome, Result, Ok, Err}
use Rattle.outside.specs.Clocks.{AddsAnswer}
use Rattle.ion_time.specs.Millis.{BeginsAt, nearest}
use Rattle.ion_values.specs.declared.time.TimeParts.{TimeParts}
use Rattle.ql_types.specs.Ids.{raw_id}
use Rattle.ql_types.specs.declared.Hash32.{Hash32}
use Rattle.ql_types.specs.declared.TxId.{TxId}
use Rattle.laws_validity.specs.Before.{IsUnused}
use Rattle.ledger_model.specs.declared.block.Block.{Block}
use Rattle.ledger_model.specs.declared.block.Said.{Said}
use Rattle.ledger_model.specs.declared.outcome.Named.{Named}
use Rattle.ledger_model.specs.declared.script.Request.{Request}
use Rattle.ledger_model.specs.CommitDigest.{first_digest, with_statement}
use Rattle.ledger_model.specs.Damages.{Undamaged, same_hash}
use Rattle.ledger_model.specs.Making.{IsMadeOf}
use Rattle.ledger_model.specs.Run.{ran, run}
use Rattle.ledger_model.specs.State.{state}
use Rattle.laws_footprint.specs.Touches.{conflict}
use Rattle.laws_history.specs.Standings.{Standing}
use Rattle.journal_reader.specs.Faults.{IsStoreFault}
use Rattle.txn_core.specs.Opened.{Opened}
use Rattle.ledger_core.specs.declared.appending.Receipt.{Receipt}
use Rattle.ledger_core.specs.declared.commit.CommitFault.{CommitFault}
use Rattle.ledger_core.specs.declared.commit.Uncommitted.{Uncommitted}
use Rattle.ledger_core.specs.declared.commit.CommitFault.TheVariants.{EndedTxn, DigestDiffers, Conflict, JournalFull, StoreFault, OutOfMemory}
use Rattle.journal_keeper.specs.declared.keeping.SettleFault.{SettleFault}
use Rattle.journal_keeper.specs.declared.keeping.SettleFault.TheVariants as settle
use Rattle.outside.specs.Told.{StoreTold}
use Rattle.ledger_core.specs.NextBlock.{HasRoom, next_block, receipt_of}
use Rattle.ledger_core.specs.Tails.{MayHoldPart, joined}

-- ---- the transaction

abbrev pub tx_of : Opened → TxId
tx_of t = record { raw = raw_id t.begun.mask t.begun.number 0 }

-- the commit digest of what was said; what the statements returned counts for nothing
abbrev pub digest_of : TxId → List Said → Hash32
digest_of tx said = fold (λ digest x. with_statement digest x.text x.params) (first_digest tx) said

-- its own digest
abbrev pub own_digest : Opened → Hash32
own_digest t = digest_of (tx_of t) t.done.said

-- the digest that is sent is its own, if one is sent
abbrev pub is_own : Opened → Option Hash32 → Bool
is_own t None = true
is_own t (Some digest) = same_hash (own_digest t) digest

-- The first blocks that stand are those on which it began, no block is of its number, and what it has done is what some
-- statements come to on those first blocks.
pub record IsOpenOn (s : Standing) (t : Opened) : Type 0 where
  pub mask : t.begun.mask ≡ s.mask
  pub first : 1 ≤ t.begun.number
  pub drawn : t.begun.number ≤ s.last
  pub unused : IsUnused s.mask t.begun.number s.blocks
  pub stood : t.since ≤ length s.blocks
  pub base : t.base ≡ state (take t.since s.blocks)
  pub asked : List Request
  pub runs : run t.begun t.base asked ≡ ran t.done

-- the first later block that touches something that it read
abbrev pub conflict_of : Standing → Opened → Option Named
conflict_of s t = conflict s.blocks t.since t.done.footprint

-- ---- the clock

-- The clock was asked once, and the time is what it returned in UTC, in milliseconds, or the nearest one of the
-- years 0001 to 9999.
pub record IsAnswer (before now : Option (List ℤ)) (always : Option ℤ) (time : TimeParts) : Type 0 where
  pub answer : ℤ
  pub adds : AddsAnswer before now answer
  pub one : IfSome always (λ same. answer ≡ same)
  pub begins : BeginsAt (nearest answer) time

-- ---- how it ends

-- the checks before memory and the store find nothing
pub record PassesChecks (s : Standing) (t : Opened) (sent : Option Hash32) : Type 0 where
  pub goes_on : t.ended ≡ false
  pub digest_is : is_own t sent ≡ true
  pub free : conflict_of s t ≡ None
  pub room : HasRoom s

-- the first check that finds something, or memory ran out
abbrev pub IsFound : Standing → Opened → Option Hash32 → CommitFault → Type 0
IsFound s t sent EndedTxn = t.ended ≡ true
IsFound s t sent (DigestDiffers mine given) =
    (t.ended ≡ false) × (mine ≡ own_digest t) × (sent ≡ Some given) × (same_hash mine given ≡ false)
IsFound s t sent (Conflict since named) =
    (t.ended ≡ false) × (is_own t sent ≡ true) × (since ≡ t.since) × (conflict_of s t ≡ Some named)
IsFound s t sent (JournalFull blocks) =
    (t.ended ≡ false) × (is_own t sent ≡ true) × (conflict_of s t ≡ None) × (length s.blocks ≡ 2 ^ 32 - 1)
    × (blocks ≡ 2 ^ 32 - 1)
IsFound s t sent OutOfMemory = t.ended ≡ false
IsFound s t sent other = ⊥

abbrev pub Checked : Standing → Opened → Option Hash32 → Result (Unit {0}) CommitFault → Type 0
Checked s t sent (Ok done) = PassesChecks s t sent
Checked s t sent (Err fault) = IsFound s t sent fault

-- This is the transaction's block after all blocks, made at a time that the clock returned. It is that of the
-- statements by which the transaction came to what it has done, as they run on all blocks, and it is undamaged there.
pub record ComesTo (s : Standing) (t : Opened) (sent : Option Hash32) (told : TimeParts → Type 0)
    (b : Block) : Type 0 where
  pub checks : PassesChecks s t sent
  pub time : TimeParts
  pub is_told : told time
  pub block_is : b ≡ next_block t s.blocks time
  pub made : (asked : List Request) → run t.begun t.base asked ≡ ran t.done
      → IsMadeOf t.begun s.blocks t.place time asked b
  pub undamaged : Undamaged (s.blocks ++ b ∷ [])

-- it stands after the others
pub record Seals (s : Standing) (t : Opened) (sent : Option Hash32) (told : TimeParts → Type 0) (receipt : Receipt)
    (now : Standing) : Type 0 where
  pub block : Block
  pub comes : ComesTo s t sent told block
  pub receipt_is : receipt ≡ receipt_of block
  pub now_is : now ≡ joined s block

-- the store failed at it
pub record Fails (s : Standing) (t : Opened) (sent : Option Hash32) (told : TimeParts → Type 0)
    (now : Standing) : Type 0 where
  pub block : Block
  pub comes : ComesTo s t sent told block
  pub now_is : now ≡ s

abbrev pub CommitEnds : Standing → Opened → Option Hash32 → (TimeParts → Type 0) → Result Receipt CommitFault
    → Standing → Type 0
CommitEnds s t sent told (Ok receipt) now = Seals s t sent told receipt now
CommitEnds s t sent told (Err (StoreFault count)) now = Fails s t sent told now
CommitEnds s t sent told (Err fault) now = IsFound s t sent fault × (now ≡ s)

-- the block with which a commit that wasn't done had come to its store, if it had
abbrev pub IsTried : Standing → Opened → Option Hash32 → (TimeParts → Type 0) → CommitFault → Option Block → Type 0
IsTried s t sent told (StoreFault count) (Some b) = ComesTo s t sent told b
IsTried s t sent told OutOfMemory (Some b) = ComesTo s t sent told b
IsTried s t sent told (StoreFault count) None = ⊥
IsTried s t sent told other None = Unit {0}
IsTried s t sent told other (Some b) = ⊥

-- what is returned, without that block
abbrev pub told_end : Result Receipt Uncommitted → Result Receipt CommitFault
told_end (Ok receipt) = Ok receipt
told_end (Err e) = Err e.fault

-- ---- the store

-- the store failed in its last call exactly if the fault says so
abbrev pub IsCommitFault : CommitFault → StoreTold → StoreTold → Type 0
IsCommitFault (StoreFault count) before after = IsStoreFault count before after
IsCommitFault other before after = after.faults ≡ before.faults

-- the fault comes of memory or of the store
abbrev pub IsService : CommitFault → Type 0
IsService (StoreFault count) = Unit {0}
IsService OutOfMemory = Unit {0}
IsService other = ⊥

-- the store's fault, as the commit's
abbrev pub fault_of : SettleFault → CommitFault
fault_of (settle.StoreFault count) = StoreFault count
fault_of settle.OutOfMemory = OutOfMemory

-- the bytes are as before, or a part of the line of the transaction's block stands after the lines of the blocks
abbrev pub MayHoldPartOf : Standing → Opened → Option Hash32 → (TimeParts → Type 0) → Option (List ℕ)
    → Option (List ℕ) → Type 0
MayHoldPartOf s t sent told before after =
    (after ≡ before) ⊎ ((b : Block) × ComesTo s t sent told b × MayHoldPart s.blocks b before after)
