-- What a run of any number of workers claims of the blocks that it leaves and of the outcomes that it tells: the blocks
-- are one serial history, and each outcome is true of it, however the sessions' transactions came between one another.
use Rattle.std.specs.Prelude.{◌≡◌, ◌⊎◌, ℕ, ◌+◌, ◌^◌, ◌<◌, ◌≤◌, ◌-◌, List, [], ◌∷◌, ◌++◌, length, slice_get, Option, None, Some, IfSome, Contains, true, false}
use Rattle.std.specs.List.{AllByRecursion}
use Rattle.ql_types.specs.Ids.{transaction_in}
use Rattle.ql_types.specs.declared.Hash32.{Hash32}
use Rattle.ql_types.specs.declared.TxId.{TxId}
use Rattle.ledger_model.specs.CommitDigest.{commit_digest}
use Rattle.ledger_model.specs.declared.block.Block.{Block}
use Rattle.ledger_model.specs.declared.outcome.Named.{Named}
use Rattle.ledger_model.specs.declared.outcome.Outcome.{Outcome}
use Rattle.ledger_model.specs.declared.outcome.Outcome.TheVariants.{Committed, Conflict, Refused, DigestDiffers, StoreFault, JournalFull, IdsSpent, Aborted, Denied, OutOfMemory}
use Rattle.ledger_model.specs.declared.outcome.PlacedOutcome.{PlacedOutcome}
use Rattle.ledger_model.specs.declared.script.Denial.{Denial}
use Rattle.ledger_model.specs.declared.script.Job.{Job}
use Rattle.ledger_model.specs.Follows.{all_differ}
use Rattle.ledger_model.specs.Run.{Progress, ran}
use Rattle.ledger_model.specs.Script.{Placed}
use Rattle.laws_footprint.specs.Touches.{conflict}
use Rattle.laws_history.specs.Records.{RunRecord, made, CameToCommit, FitsBlocks, HasNumber, HaveOneWorker, IsFresh, HasNoBlock, IsAborted, IsCommitted, IsDenied, IsJournalFull, IsRefused, IsStoreFault, IsUntouched, attempts, greatest, greatest_count, ran_on, stood_before, told_counts, told_id, told_ids}
use Rattle.laws_history.specs.Attempts.{SendsOwn}

-- ---- the blocks

-- a digest that the block's job gives is that of the block's transaction
abbrev pub IsOfOwnDigest : List Placed → Block → Type 0
IsOfOwnDigest jobs b = (p : Placed) → Contains jobs p → b.info.place ≡ p.place → SendsOwn p.job b.header.tx

-- ---- on which blocks a transaction ran

-- how many blocks stood behind it: its own counted, and of a conflict those up to the one that it names
abbrev pub stood_behind : Outcome → Option ℕ
stood_behind (Committed tx block) = Some (block + 1)
stood_behind (Conflict tx since named) = Some (named.block + 1)
stood_behind other = stood_before other

-- how many attempts of the job had met a later block before the one whose outcome is told, where that is known
abbrev pub retried : Job → Outcome → ℕ
retried job (Conflict tx since named) = job.retries
retried job other = 0

-- Where the outcome doesn't tell on which blocks the job's transaction ran, it ran on `low` of them at the least.
abbrev pub RunsPast : RunRecord → Placed → Outcome → ℕ → Type 0
RunsPast t p (StoreFault tx count) low = CameToCommit t p tx low
RunsPast t p (JournalFull tx blocks) low = IsUntouched t p tx low
RunsPast t p other low = Unit {0}

-- Of two transactions the first one was over when the second one, of this job, began: it has the smaller number, and
-- the second one ran on all blocks that stood behind the first one, and on one more for each time that it was tried
-- again.
pub record RunsBefore (t : RunRecord) (first : Outcome) (p : Placed) (second : Outcome) : Type 0 where
  pub numbers : AllByRecursion
      (λ m. AllByRecursion (λ n. transaction_in t.mask m < transaction_in t.mask n) (told_id second)) (told_id first)
  pub blocks : IfSome (stood_behind first) (λ m. IfSome (stood_before second) (λ n. m + retried p.job second ≤ n))
  pub past : IfSome (stood_behind first) (λ m. RunsPast t p second m)

-- ---- the outcomes

-- This later block is the first that touches something that the transaction read, and each attempt before met a later
-- block of its own.
pub record IsInConflict (t : RunRecord) (p : Placed) (tx : TxId) (since : ℕ) (named : Named) : Type 0 where
  pub number : ℕ
  pub numbered : HasNumber t tx number
  pub fresh : IsFresh t since
  pub retries : length t.before + p.job.retries ≤ since
  pub progress : Progress
  pub ends : ran_on t p number since ≡ ran progress
  pub finds : conflict t.after since progress.footprint ≡ Some named
  pub commits : p.job.abort ≡ false
  pub admitted : p.job.denied ≡ None
  pub digest : SendsOwn p.job tx
  pub blockless : HasNoBlock t p

-- the digest that the job gives isn't that of its transaction, whose statements are all done
pub record Differs (t : RunRecord) (p : Placed) (tx : TxId) (since : ℕ) (mine given : Hash32) : Type 0 where
  pub number : ℕ
  pub numbered : HasNumber t tx number
  pub fresh : IsFresh t since
  pub progress : Progress
  pub ends : ran_on t p number since ≡ ran progress
  pub commits : p.job.abort ≡ false
  pub admitted : p.job.denied ≡ None
  pub mine_is : mine ≡ commit_digest tx p.job.statements
  pub given_is : p.job.digest ≡ Some given
  pub differ : mine ≡ given → ⊥
  pub blockless : HasNoBlock t p

-- no number is left: the journal and the attempts of all jobs may have used all below 2^64
pub record IsSpent (t : RunRecord) (p : Placed) (last : ℕ) : Type 0 where
  pub greatest_last : last ≡ 2 ^ 64 - 1
  pub used : 2 ^ 64 ≤ greatest t.mask t.before + attempts t.jobs
  pub admitted : p.job.denied ≡ None
  pub blockless : HasNoBlock t p

-- what an outcome says is true; any transaction may run out of memory
abbrev pub Holds : RunRecord → Placed → Outcome → Type 0
Holds t p (Committed tx block) = IsCommitted t p tx block
Holds t p (Conflict tx since named) = IsInConflict t p tx since named
Holds t p (Refused tx since statement cause) = IsRefused t p tx since statement cause
Holds t p (DigestDiffers tx since mine given) = Differs t p tx since mine given
Holds t p (StoreFault tx count) = IsStoreFault t p tx count × SendsOwn p.job tx
Holds t p (JournalFull tx blocks) = IsJournalFull t p tx blocks × SendsOwn p.job tx
Holds t p (IdsSpent last) = IsSpent t p last
Holds t p (Aborted tx since) = IsAborted t p tx since
Holds t p (Denied statement action table rule) =
    IsDenied t p (record { statement = statement; action = action; table = table; rule = rule })
Holds t p OutOfMemory = HasNoBlock t p

-- the transactions with these outcomes that the job's worker runs ran before the job's own, which has this outcome
abbrev pub AllBefore : RunRecord → List PlacedOutcome → Placed → Outcome → Type 0
AllBefore t done p outcome =
    AllByRecursion
    (λ o. HaveOneWorker t.workers o.place.session p.place.session → RunsBefore t o.outcome p outcome) done

-- An outcome for each job, in the script's order, behind those of the jobs in front. Those of the same worker ran
-- before it.
abbrev pub EachHolds : RunRecord → List PlacedOutcome → List Placed → List PlacedOutcome → Type 0
EachHolds t done [] [] = Unit {0}
EachHolds t done (p ∷ ps) (o ∷ os) =
    (o.place ≡ p.place) × Holds t p o.outcome × AllBefore t done p o.outcome × EachHolds t (done ++ o ∷ []) ps os
EachHolds t done [] (o ∷ os) = ⊥
EachHolds t done (p ∷ ps) [] = ⊥

-- The blocks and the outcomes of the run fit, with any number of workers. No two transactions have one id, no two
-- outcomes tell one count of failures, and at the end the store has failed as often as the last failure that is told
-- says, or as at the beginning.
pub record Fits (t : RunRecord) : Type 0 where
  pub blocks : FitsBlocks t
  pub digests : AllByRecursion (IsOfOwnDigest t.jobs) (made t)
  pub outcomes : EachHolds t [] t.jobs t.outcomes
  pub numbers : all_differ (told_ids t.outcomes) ≡ true
  pub counts : all_differ (told_counts t.outcomes) ≡ true
  pub faults : t.closed ≡ greatest_count t.opened (told_counts t.outcomes)

-- each block that was made is told as committed, with its own transaction's id and at its own place
abbrev pub BlocksAreTold : Type 0
BlocksAreTold =
    (t : RunRecord) (k : ℕ) (b : Block) → Fits t → length t.before ≤ k → slice_get t.after k ≡ Some b
    → Contains t.outcomes (record { place = b.info.place; outcome = Committed b.header.tx k })

-- ---- what is denied

-- what an outcome says is denied
abbrev pub denial_in : Outcome → Option Denial
denial_in (Denied statement action table rule) =
    Some (record { statement = statement; action = action; table = table; rule = rule })
denial_in other = None

-- Unless memory ran out, the outcome says that something of the job is denied exactly if it is, and what. No block of
-- the run is that of such a job.
pub record TellsDenial (t : RunRecord) (p : Placed) (x : Outcome) : Type 0 where
  pub told : (x ≡ OutOfMemory) ⊎ (denial_in x ≡ p.job.denied)
  pub blockless : IfSome p.job.denied (λ denial. HasNoBlock t p)

abbrev pub EachTellsDenial : RunRecord → List Placed → List PlacedOutcome → Type 0
EachTellsDenial t [] [] = Unit {0}
EachTellsDenial t (p ∷ ps) (o ∷ os) = TellsDenial t p o.outcome × EachTellsDenial t ps os
EachTellsDenial t [] (o ∷ os) = ⊥
EachTellsDenial t (p ∷ ps) [] = ⊥

-- What the rules deny of each job is told as its outcome, and nothing else is told as denied.
abbrev pub DenialsAreTold : Type 0
DenialsAreTold = (t : RunRecord) → Fits t → EachTellsDenial t t.jobs t.outcomes
