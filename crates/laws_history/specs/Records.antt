-- The record of a run of many sessions, what is claimed of the blocks that it leaves, and what single outcomes say.
use Rattle.std.specs.Prelude.{◌≡◌, ℕ, ◌+◌, ◌^◌, ◌%◌, ◌<◌, ◌≤◌, ◌-◌, max, ℤ, List, [], ◌∷◌, ◌++◌, length, take, drop, slice_get, Option, Some, None, IfSome, Contains, true, false}
use Rattle.std.specs.List.{AllByRecursion}
use Rattle.ion_values.specs.declared.time.TimeParts.{TimeParts}
use Rattle.ion_time.specs.Millis.{BeginsAt, nearest}
use Rattle.ql_types.specs.Ids.{raw_id, transaction_in}
use Rattle.ql_types.specs.declared.Place.{Place}
use Rattle.ql_types.specs.declared.TxId.{TxId}
use Rattle.ledger_model.specs.Journal.{said_in}
use Rattle.ledger_model.specs.declared.block.Block.{Block}
use Rattle.ledger_model.specs.declared.outcome.Outcome.{Outcome}
use Rattle.ledger_model.specs.declared.outcome.Outcome.TheVariants.{Committed, Conflict, Refused, DigestDiffers, StoreFault, JournalFull, IdsSpent, Aborted, Denied, OutOfMemory}
use Rattle.ledger_model.specs.declared.outcome.PlacedOutcome.{PlacedOutcome}
use Rattle.ledger_model.specs.declared.outcome.Refusal.{Refusal}
use Rattle.ledger_model.specs.declared.script.Denial.{Denial}
use Rattle.ledger_model.specs.State.{state}
use Rattle.ledger_model.specs.Run.{Progress, Ran, run, ran, refused}
use Rattle.ledger_model.specs.Legal.{Legal, asked_in}
use Rattle.ledger_model.specs.Damages.{Undamaged}
use Rattle.ledger_model.specs.HashesAsked.{AreAsked}
use Rattle.ledger_model.specs.Making.{time_behind}
use Rattle.ledger_model.specs.Script.{Placed}
use Rattle.laws_footprint.specs.Touches.{conflict}

-- Where the times of a run's blocks come from: one time, or what a clock answered, in milliseconds since 1970 in UTC,
-- where it tells that.
pub data Times : Type 0 where
  one_time : TimeParts → Times
  answered : List ℤ → Times
  untold : Times

-- What a run was told and what it left: the mask that the words give, where they do, and that of the ids; where the
-- times of its blocks come from; how many workers it has; the script's jobs in order; how often the store had failed
-- before and after; the blocks before and after; and the outcomes in the script's order.
pub record RunRecord : Type 0 where
  pub given : Option ℕ
  pub mask : ℕ
  pub times : Times
  pub workers : ℕ
  pub jobs : List Placed
  pub opened : ℕ
  pub closed : ℕ
  pub before : List Block
  pub after : List Block
  pub outcomes : List PlacedOutcome

-- ---- the order of the jobs

-- the job isn't of this place's session, or it has a greater number there
abbrev pub IsBehind : Place → Placed → Type 0
IsBehind place p = place.session ≡ p.place.session → place.transaction < p.place.transaction

-- of two jobs of one session the later one has the greater number
abbrev pub InOrder : List Placed → Type 0
InOrder [] = Unit {0}
InOrder (p ∷ ps) = AllByRecursion (IsBehind p.place) ps × InOrder ps

-- ---- the blocks

-- the blocks that the run made
abbrev pub made : RunRecord → List Block
made t = drop (length t.before) t.after

-- the mask is what the first block's strand shows, or this one where there is no block
abbrev pub mask_of : ℕ → List Block → ℕ
mask_of given [] = given
mask_of given (b ∷ bs) = b.header.address.strand.raw

-- so the ids have the journal's own mask, or the one that the words give
abbrev pub HasMask : RunRecord → Type 0
HasMask t = IfSome t.given (λ given. t.mask ≡ mask_of given t.before)

-- The time is the one time, or that of an answer of the clock, taken to the nearest millisecond of the years 0001 to
-- 9999. Nothing is said where a clock doesn't tell its answers.
abbrev pub IsTimeIn : Times → TimeParts → Type 0
IsTimeIn (one_time own) time = time ≡ own
IsTimeIn (answered answers) time = (ms : ℤ) × Contains answers ms × BeginsAt (nearest ms) time
IsTimeIn untold time = Unit {0}

-- the block is as late as the one before it, or has one of these times where that is later
pub record HasTime (times : Times) (before : List Block) (b : Block) : Type 0 where
  pub time : TimeParts
  pub among : IsTimeIn times time
  pub is : b.header.time ≡ time_behind before time

-- so is each of these blocks behind those in front
abbrev pub HaveTimes : Times → List Block → List Block → Type 0
HaveTimes times before [] = Unit {0}
HaveTimes times before (b ∷ bs) = HasTime times before b × HaveTimes times (before ++ b ∷ []) bs

-- the block is that of this job: it has the job's place and statements, nothing of the job is denied, and it is to be
-- committed
pub record IsOfJob (b : Block) (p : Placed) : Type 0 where
  pub place : b.info.place ≡ p.place
  pub asked : asked_in (said_in b.info.said) ≡ p.job.statements
  pub commits : p.job.abort ≡ false
  pub admitted : p.job.denied ≡ None

pub record IsOfSomeJob (jobs : List Placed) (b : Block) : Type 0 where
  pub placed : Placed
  pub among : Contains jobs placed
  pub of_job : IsOfJob b placed

-- of two transactions of one session the later one has the greater number
abbrev pub Before : Place → Block → Type 0
Before place b = place.session ≡ b.info.place.session → place.transaction < b.info.place.transaction

-- no job has two blocks, and those of a session stand in its order
abbrev pub InSessionOrder : List Block → Type 0
InSessionOrder [] = Unit {0}
InSessionOrder (b ∷ bs) = AllByRecursion (Before b.info.place) bs × InSessionOrder bs

-- the blocks are a history of the script's jobs, on the strand of the mask: what holds of them whatever is told
pub record FitsBlocks (t : RunRecord) : Type 0 where
  pub begins : take (length t.before) t.after ≡ t.before
  pub undamaged : Undamaged t.after
  pub asked : AreAsked t.before → AreAsked t.after
  pub masked : HasMask t
  pub strand : mask_of t.mask t.after ≡ t.mask
  pub serial : Legal t.mask t.after (length t.before)
  pub times : HaveTimes t.times t.before (made t)
  pub of_jobs : AllByRecursion (IsOfSomeJob t.jobs) (made t)
  pub once : InSessionOrder (made t)

-- ---- transactions and their numbers

-- the greatest number of a transaction of the journal, 0 where there is none
abbrev pub greatest : ℕ → List Block → ℕ
greatest mask [] = 0
greatest mask (b ∷ bs) = max (transaction_in mask b.header.tx.raw) (greatest mask bs)

-- how many attempts the jobs may make: each one, and again after each conflict
abbrev pub attempts : List Placed → ℕ
attempts [] = 0
attempts (p ∷ ps) = (p.job.retries + 1) + attempts ps

-- the transaction has a number of this run
pub record HasNumber (t : RunRecord) (tx : TxId) (number : ℕ) : Type 0 where
  pub id : tx.raw ≡ raw_id t.mask number 0
  pub above : greatest t.mask t.before < number
  pub within : number ≤ greatest t.mask t.before + attempts t.jobs
  pub counted : number < 2 ^ 64

-- the ids of the transactions that the outcomes tell, in order
abbrev pub told_id : Outcome → List ℕ
told_id (Committed tx block) = tx.raw ∷ []
told_id (Conflict tx since named) = tx.raw ∷ []
told_id (Refused tx since statement cause) = tx.raw ∷ []
told_id (DigestDiffers tx since mine given) = tx.raw ∷ []
told_id (StoreFault tx count) = tx.raw ∷ []
told_id (JournalFull tx blocks) = tx.raw ∷ []
told_id (IdsSpent last) = []
told_id (Aborted tx since) = tx.raw ∷ []
told_id (Denied statement action table rule) = []
told_id OutOfMemory = []

abbrev pub told_ids : List PlacedOutcome → List ℕ
told_ids [] = []
told_ids (o ∷ os) = told_id o.outcome ++ told_ids os

-- how often the store had failed, where the outcomes tell it
abbrev pub told_count : Outcome → List ℕ
told_count (StoreFault tx count) = count ∷ []
told_count _ = []

abbrev pub told_counts : List PlacedOutcome → List ℕ
told_counts [] = []
told_counts (o ∷ os) = told_count o.outcome ++ told_counts os

-- the greatest of these counts, or this one
abbrev pub greatest_count : ℕ → List ℕ → ℕ
greatest_count least [] = least
greatest_count least (count ∷ counts) = max count (greatest_count least counts)

-- ---- on which blocks a transaction ran

-- how many blocks stood before a transaction, where its outcome tells it: those in front of its own, where it has one
abbrev pub stood_before : Outcome → Option ℕ
stood_before (Committed tx block) = Some block
stood_before (Conflict tx since named) = Some since
stood_before (Refused tx since statement cause) = Some since
stood_before (DigestDiffers tx since mine given) = Some since
stood_before (Aborted tx since) = Some since
stood_before _ = None

-- the transaction ran on the first `since` blocks, and those before the run are among them
pub record IsFresh (t : RunRecord) (since : ℕ) : Type 0 where
  pub from_before : length t.before ≤ since
  pub not_past : since ≤ length t.after

-- how the job's statements end on the first `since` blocks
abbrev pub ran_on : RunRecord → Placed → ℕ → ℕ → Ran
ran_on t p number since = run (record { mask = t.mask; number = number }) (state (take since t.after)) p.job.statements

-- ---- the outcomes

-- no block of the run is the job's
abbrev pub HasNoBlock : RunRecord → Placed → Type 0
HasNoBlock t p = AllByRecursion (λ b. b.info.place ≡ p.place → ⊥) (made t)

-- the block of this number was made by the run, and it is the transaction's
pub record IsCommitted (t : RunRecord) (p : Placed) (tx : TxId) (block : ℕ) : Type 0 where
  pub sealed : Block
  pub is_new : length t.before ≤ block
  pub there : slice_get t.after block ≡ Some sealed
  pub place : sealed.info.place ≡ p.place
  pub id : sealed.header.tx ≡ tx
  pub number : ℕ
  pub numbered : HasNumber t tx number
  pub admitted : p.job.denied ≡ None

-- this statement is refused where the transaction ran
pub record IsRefused (t : RunRecord) (p : Placed) (tx : TxId) (since statement : ℕ) (cause : Refusal) : Type 0 where
  pub number : ℕ
  pub numbered : HasNumber t tx number
  pub fresh : IsFresh t since
  pub ends : ran_on t p number since ≡ refused statement cause
  pub admitted : p.job.denied ≡ None
  pub blockless : HasNoBlock t p

-- the job says so, and none of its statements is refused
pub record IsAborted (t : RunRecord) (p : Placed) (tx : TxId) (since : ℕ) : Type 0 where
  pub number : ℕ
  pub numbered : HasNumber t tx number
  pub fresh : IsFresh t since
  pub progress : Progress
  pub ends : ran_on t p number since ≡ ran progress
  pub aborts : p.job.abort ≡ true
  pub admitted : p.job.denied ≡ None
  pub blockless : HasNoBlock t p

-- The transaction came to its commit: its statements were all done on the first `since` blocks, of which there are
-- `low` at the least.
pub record CameToCommit (t : RunRecord) (p : Placed) (tx : TxId) (low : ℕ) : Type 0 where
  pub number : ℕ
  pub id : tx.raw ≡ raw_id t.mask number 0
  pub since : ℕ
  pub from : low ≤ since
  pub not_past : since ≤ length t.after
  pub progress : Progress
  pub ends : ran_on t p number since ≡ ran progress

-- The store failed in the transaction's commit, and then had failed `count` times.
pub record IsStoreFault (t : RunRecord) (p : Placed) (tx : TxId) (count : ℕ) : Type 0 where
  pub came : CameToCommit t p tx (length t.before)
  pub numbered : HasNumber t tx came.number
  pub commits : p.job.abort ≡ false
  pub admitted : p.job.denied ≡ None
  pub rose : t.opened < count
  pub not_past : count ≤ t.closed
  pub blockless : HasNoBlock t p

-- The transaction came to its commit, and no later block touches what it read.
pub record IsUntouched (t : RunRecord) (p : Placed) (tx : TxId) (low : ℕ) : Type 0 where
  pub came : CameToCommit t p tx low
  pub untouched : conflict t.after came.since came.progress.footprint ≡ None

-- At the transaction's commit the journal has as many blocks as it can have, and nothing conflicts.
pub record IsJournalFull (t : RunRecord) (p : Placed) (tx : TxId) (blocks : ℕ) : Type 0 where
  pub free : IsUntouched t p tx (length t.before)
  pub numbered : HasNumber t tx free.came.number
  pub commits : p.job.abort ≡ false
  pub admitted : p.job.denied ≡ None
  pub full : length t.after ≡ 2 ^ 32 - 1
  pub told : blocks ≡ 2 ^ 32 - 1
  pub blockless : HasNoBlock t p

-- the rules deny this of the job, which never began
pub record IsDenied (t : RunRecord) (p : Placed) (denial : Denial) : Type 0 where
  pub denied : p.job.denied ≡ Some denial
  pub blockless : HasNoBlock t p

-- One worker runs both of these sessions: the sessions are dealt to the workers in turn.
abbrev pub HaveOneWorker : ℕ → ℕ → ℕ → Type 0
HaveOneWorker workers first second = first % workers ≡ second % workers
