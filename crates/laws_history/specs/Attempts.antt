-- One attempt at a job's transaction, by its outcome, as far as the pass with which it was made knows it: which
-- entries it made, and what is true of its outcome on the entries that had come. Entries of others may stand between
-- its own (the ledger's own).
use Rattle.std.specs.Prelude.{◌≡◌, ◌⊎◌, ℕ, ◌-◌, ◌^◌, ◌<◌, true, false, List, length, Option, None, Some, IfSome}
use mathlib.Core.List.{IsPrefix}
use Rattle.ion_values.specs.declared.time.TimeParts.{TimeParts}
use Rattle.ql_types.specs.Ids.{raw_id}
use Rattle.ql_types.specs.declared.Hash32.{Hash32}
use Rattle.ql_types.specs.declared.Place.{Place}
use Rattle.ql_types.specs.declared.TxId.{TxId}
use Rattle.ledger_model.specs.CommitDigest.{commit_digest}
use Rattle.ledger_model.specs.declared.block.Block.{Block}
use Rattle.ledger_model.specs.declared.outcome.Named.{Named}
use Rattle.ledger_model.specs.declared.outcome.Outcome.{Outcome}
use Rattle.ledger_model.specs.declared.outcome.Outcome.TheVariants.{Committed, Conflict, Refused, DigestDiffers, StoreFault, JournalFull, IdsSpent, Aborted, Denied, OutOfMemory}
use Rattle.ledger_model.specs.declared.outcome.Refusal.{Refusal}
use Rattle.ledger_model.specs.declared.script.Denial.{Denial}
use Rattle.ledger_model.specs.declared.script.Job.{Job}
use Rattle.ledger_model.specs.Making.{IsMadeOf}
use Rattle.ledger_model.specs.Run.{Begun, Progress, Ran, ran, refused, run}
use Rattle.ledger_model.specs.State.{state}
use Rattle.laws_footprint.specs.Touches.{conflict}
use Rattle.turn_lock.specs.declared.view.Known.{Known}
use Rattle.turn_lock.specs.History.{with_entry, with_seen}
use Rattle.laws_machine.specs.Entries.{Entry, Opening, begun_at, failed, sealed, wanted}
use Rattle.laws_history.specs.Seen.{blocks_in, reach}

-- ---- what a pass sees and adds

-- nothing of its own, and perhaps later entries of others
pub record Sees (k now : Known Entry) : Type 0 where
  pub later : IsPrefix k.seen now.seen
  pub same : now ≡ with_seen k now.seen

-- an entry of its own, with these entries in front of it
pub record Adds (k : Known Entry) (e : Entry) (now : Known Entry) : Type 0 where
  pub front : List Entry
  pub later : IsPrefix k.seen front
  pub added : now ≡ with_entry (with_seen k front) e

-- ---- a job's transaction

-- the transaction of this number
abbrev pub begun_as : Opening → ℕ → Begun
begun_as o number = record { mask = o.mask; number = number }

-- how the job's statements end as that transaction, on the blocks of these entries
abbrev pub ran_in : Opening → List Entry → ℕ → Job → Ran
ran_in o front number job = run (begun_as o number) (state (blocks_in o front)) job.statements

-- a digest that the job gives is that of its transaction
abbrev pub SendsOwn : Job → TxId → Type 0
SendsOwn job tx = IfSome job.digest (λ digest. digest ≡ commit_digest tx job.statements)

-- a transaction of this id has begun at the place
pub record Begins (o : Opening) (place : Place) (k : Known Entry) (tx : TxId) : Type 0 where
  pub number : ℕ
  pub since : ℕ
  pub id : tx.raw ≡ raw_id o.mask number 0
  pub counted : number < 2 ^ 64
  pub now : Known Entry
  pub adds : Adds k (begun_at place number since) now

-- it has, its statements are all done on the blocks in front, nothing of it is denied, and it is to be committed
pub record Readies (o : Opening) (job : Job) (place : Place) (k : Known Entry) (tx : TxId) : Type 0 where
  pub begun : Begins o place k tx
  pub progress : Progress
  pub ends : ran_in o begun.adds.front begun.number job ≡ ran progress
  pub commits : job.abort ≡ false
  pub admitted : job.denied ≡ None

module _ (o : Opening) (job : Job) (place : Place) (k : Known Entry) where
  -- ---- without a commit

  -- this statement is refused
  pub record Refuses (tx : TxId) (since statement : ℕ) (cause : Refusal) (now : Known Entry) : Type 0 where
    pub begun : Begins o place k tx
    pub since_is : since ≡ begun.since
    pub ends : ran_in o begun.adds.front begun.number job ≡ refused statement cause
    pub admitted : job.denied ≡ None
    pub sees : Sees begun.now now

  -- no statement is, and the job says that it is to be aborted
  pub record GivesUp (tx : TxId) (since : ℕ) (now : Known Entry) : Type 0 where
    pub begun : Begins o place k tx
    pub since_is : since ≡ begun.since
    pub progress : Progress
    pub ends : ran_in o begun.adds.front begun.number job ≡ ran progress
    pub aborts : job.abort ≡ true
    pub admitted : job.denied ≡ None
    pub sees : Sees begun.now now

  -- no number is left
  pub record Spends (last : ℕ) (now : Known Entry) : Type 0 where
    pub sees : Sees k now
    pub greatest_last : last ≡ 2 ^ 64 - 1
    pub last_is : (reach o now.seen).last ≡ last
    pub admitted : job.denied ≡ None

  -- the rules deny this of it, and nothing is begun
  pub record Denies (denial : Denial) (now : Known Entry) : Type 0 where
    pub denied : job.denied ≡ Some denial
    pub sees : Sees k now

  -- ---- at its commit

  -- the digest that the job gives isn't that of its transaction
  pub record Differs (tx : TxId) (since : ℕ) (mine given : Hash32) (now : Known Entry) : Type 0 where
    pub ready : Readies o job place k tx
    pub since_is : since ≡ ready.begun.since
    pub mine_is : mine ≡ commit_digest tx job.statements
    pub given_is : job.digest ≡ Some given
    pub differ : mine ≡ given → ⊥
    pub sees : Sees ready.begun.now now

  -- of the blocks that stand by now, this later one is the first that touches something that the transaction read
  pub record IsInConflict (tx : TxId) (since : ℕ) (named : Named) (now : Known Entry) : Type 0 where
    pub ready : Readies o job place k tx
    pub digest : SendsOwn job tx
    pub since_is : since ≡ ready.begun.since
    pub sees : Sees ready.begun.now now
    pub finds : conflict (blocks_in o now.seen) since ready.progress.footprint ≡ Some named

  -- no later block touched what it read, and as many blocks stand as can
  pub record Fills (tx : TxId) (blocks : ℕ) (now : Known Entry) : Type 0 where
    pub ready : Readies o job place k tx
    pub digest : SendsOwn job tx
    pub sees : Sees ready.begun.now now
    pub untouched : conflict (blocks_in o now.seen) ready.begun.since ready.progress.footprint ≡ None
    pub full : length (blocks_in o now.seen) ≡ 2 ^ 32 - 1
    pub told : blocks ≡ 2 ^ 32 - 1

  -- no later block touched what it read, and it came to its store with this block, that of its statements behind all
  -- blocks
  pub record Comes (tx : TxId) (begun : Begins o place k tx) (front : List Entry) (block : Block) : Type 0 where
    pub commits : job.abort ≡ false
    pub admitted : job.denied ≡ None
    pub digest : SendsOwn job tx
    pub progress : Progress
    pub ends : ran_in o begun.adds.front begun.number job ≡ ran progress
    pub untouched : conflict (blocks_in o front) begun.since progress.footprint ≡ None
    pub time : TimeParts
    pub is_made : IsMadeOf (begun_as o begun.number) (blocks_in o front) place time job.statements block

  -- the store failed at it
  pub record Fails (tx : TxId) (count : ℕ) (now : Known Entry) : Type 0 where
    pub ready : Readies o job place k tx
    pub digest : SendsOwn job tx
    pub block : Block
    pub adds : Adds ready.begun.now (failed ready.begun.number count block) now
    pub comes : Comes tx ready.begun adds.front block

  -- no later block touched what it read, and it is sealed as the block of its statements behind all blocks
  pub record Commits (tx : TxId) (block : ℕ) (now : Known Entry) : Type 0 where
    pub ready : Readies o job place k tx
    pub digest : SendsOwn job tx
    pub made : Block
    pub adds : Adds ready.begun.now (sealed ready.begun.number made) now
    pub untouched : conflict (blocks_in o adds.front) ready.begun.since ready.progress.footprint ≡ None
    pub time : TimeParts
    pub is_made : IsMadeOf (begun_as o ready.begun.number) (blocks_in o adds.front) place time job.statements made
    pub block_is : block ≡ length (blocks_in o adds.front)

  -- ---- out of memory

  -- before the commit has come to its store, or there
  abbrev pub WantsAt : (tx : TxId) → Begins o place k tx → (front : List Entry) → Option Block → Type 0
  WantsAt tx begun front None = Unit {0}
  WantsAt tx begun front (Some block) = Comes tx begun front block

  abbrev pub WantsBehind : (tx : TxId) → Begins o place k tx → Known Entry → Type 0
  WantsBehind tx begun now =
      Sees begun.now now
      ⊎ ((block : Option Block) × (adds : Adds begun.now (wanted begun.number block) now)
      × WantsAt tx begun adds.front block)

  -- before a transaction has begun, or behind that
  abbrev pub Wants : Known Entry → Type 0
  Wants now = Sees k now ⊎ ((tx : TxId) × (begun : Begins o place k tx) × WantsBehind tx begun now)

-- ---- an attempt

-- what the pass knows before it and after it, by its outcome
abbrev pub Attempted : Opening → Known Entry → Job → Place → Outcome → Known Entry → Type 0
Attempted o k job place (Committed tx block) now = Commits o job place k tx block now
Attempted o k job place (Conflict tx since named) now = IsInConflict o job place k tx since named now
Attempted o k job place (Refused tx since statement cause) now = Refuses o job place k tx since statement cause now
Attempted o k job place (DigestDiffers tx since mine given) now = Differs o job place k tx since mine given now
Attempted o k job place (StoreFault tx count) now = Fails o job place k tx count now
Attempted o k job place (JournalFull tx blocks) now = Fills o job place k tx blocks now
Attempted o k job place (IdsSpent last) now = Spends o job place k last now
Attempted o k job place (Aborted tx since) now = GivesUp o job place k tx since now
Attempted o k job place (Denied statement action table rule) now =
    Denies o job place k (record { statement = statement; action = action; table = table; rule = rule }) now
Attempted o k job place OutOfMemory now = Wants o job place k now
