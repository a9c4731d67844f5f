-- What an append and a commit leave, by what they return: the blocks, the clock and the store.
use Rattle.std.specs.Prelude.{◌≡◌, ◌⊎◌, ◌≤◌, ℤ, true, false, List, Option, Result, Ok, Err, OnOk, OnErr, IfErr, option_map}
use Rattle.ion_values.specs.declared.time.TimeParts.{TimeParts}
use Rattle.ql_types.specs.declared.Hash32.{Hash32}
use Rattle.ledger_model.specs.declared.block.Block.{Block}
use Rattle.laws_history.specs.Stores.{Holding, IsSynced}
use Rattle.outside.specs.Told.{StoreTold, held}
use Rattle.journal_keeper.specs.Calls.{CallsAtMost}
use Rattle.journal_keeper.specs.Faults.{IsSettleFault}
use Rattle.journal_keeper.specs.declared.keeping.SettleFault.TheVariants as settle
use Rattle.txn_core.specs.Opened.{Opened}
use Rattle.ledger_core.specs.declared.appending.Receipt.{Receipt}
use Rattle.ledger_core.specs.declared.appending.Unkept.{Unkept}
use Rattle.ledger_core.specs.declared.commit.CommitFault.{CommitFault}
use Rattle.ledger_core.specs.Committing.{CommitEnds, IsAnswer, IsCommitFault, IsService, IsTried, MayHoldPartOf}
use Rattle.ledger_core.specs.Faults.{IsTriedWith}
use Rattle.ledger_core.specs.Images.{CommitKeeps}
use Rattle.ledger_core.specs.Tails.{Leaves, MayHoldPart, TailHeld, joined}
use Rattle.ledger_core.specs.Unkept.{unkept_with}

-- ---- an append

module _ {S C : Type 0} (told : S → StoreTold) where
  -- what an append of this block leaves
  pub record AppendLeaves {R : Type 0} (before after : TailHeld S C) (block : Block)
      (result : Result R Unkept) : Type 0 where
    -- the blocks and the clock
    pub standing : OnOk result (after.standing ≡ joined before.standing block)
    pub same : OnErr result (after.standing ≡ before.standing)
    pub clock : after.clock ≡ before.clock
    -- the store after an append
    pub holds : OnOk result (Holding after.standing.blocks (held (told after.store)))
    pub synced : OnOk result (IsSynced (told after.store))
    pub settled : OnOk result (after.marked ≡ false)
    -- the store after a fault
    pub part : OnErr result (MayHoldPart before.standing.blocks block (held (told before.store))
        (held (told after.store)))
    pub tried : IfErr result (λ e. IsTriedWith block e.fault (option_map (λ b. b.value) e.tried))
    pub left : IfErr result (λ e. Leaves before.standing.blocks (option_map (λ b. b.value) e.tried)
        (held (told before.store)) (held (told after.store)))
    pub marked : IfErr result (λ e. ((e.fault ≡ settle.OutOfMemory) × (after ≡ before)) ⊎ (after.marked ≡ true))
    -- what a stop leaves
    pub images : CommitKeeps told result (unkept_with result) before after
    -- how often it called the store
    pub calls : CallsAtMost 4 (told before.store).content (told after.store).content
    -- when the store failed
    pub later : (told before.store).faults ≤ (told after.store).faults
    pub fine : OnOk result ((told after.store).faults ≡ (told before.store).faults)
    pub fault : IfErr result (λ e. IsSettleFault e.fault (told before.store) (told after.store))

-- ---- a commit

-- with what a store tells, and what a clock tells of its answers
module _ {S C : Type 0} (told : S → StoreTold) (answers : C → Option (List ℤ)) (always : C → Option ℤ)
    (before after : TailHeld S C) where
  -- the clock was asked once in between, and this is its time
  abbrev pub Asked : TimeParts → Type 0
  Asked = IsAnswer (answers before.clock) (answers after.clock) (always before.clock)

  -- this is the block with which the commit had come to its store, if it was refused and had
  abbrev pub HadCome : Opened → Option Hash32 → Result Receipt CommitFault → Option Block → Type 0
  HadCome t sent (Ok receipt) came = Unit {0}
  HadCome t sent (Err fault) came = IsTried before.standing t sent Asked fault came

  -- what a stop of the machine leaves, within the commit and after it
  pub record LeavesImages (t : Opened) (sent : Option Hash32) (result : Result Receipt CommitFault) : Type 0 where
    pub came : Option Block
    pub had_come : HadCome t sent result came
    pub keeps : CommitKeeps told result came before after

  pub record CommitLeaves (t : Opened) (sent : Option Hash32) (result : Result Receipt CommitFault) : Type 0 where
    -- the blocks, and the whole tail after a fault: as it was, unless it comes of memory or of the store
    pub ends : CommitEnds before.standing t sent Asked result after.standing
    pub unasked : IfErr result (λ fault. IsService fault ⊎ (after ≡ before))
    pub marked : OnErr result ((after ≡ record before { clock = after.clock }) ⊎ (after.marked ≡ true))
    -- the clock, which is asked at most once
    pub asked : (after ≡ before) ⊎ ((time : TimeParts) × Asked time)
    pub always_is : always after.clock ≡ always before.clock
    -- the store: a block that is kept is synced, and no rest stands after it; after a fault a part of its line may
    -- stand
    pub holds : OnOk result (Holding after.standing.blocks (held (told after.store)))
    pub synced : OnOk result (IsSynced (told after.store))
    pub part : OnErr result (MayHoldPartOf before.standing t sent Asked (held (told before.store))
        (held (told after.store)))
    -- it calls the store at most four times
    pub calls : CallsAtMost 4 (told before.store).content (told after.store).content
    -- the store failed exactly if the commit returns so
    pub fine : OnOk result ((told after.store).faults ≡ (told before.store).faults)
    pub fault : IfErr result (λ fault. IsCommitFault fault (told before.store) (told after.store))
    -- each image, at each moment within the commit and after it
    pub images : LeavesImages t sent result
