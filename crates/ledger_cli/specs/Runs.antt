-- How a run goes on from the tail of a journal that was loaded, and what it leaves.
use Rattle.std.specs.Prelude.{◌≡◌, ◌⊎◌, false, [], ℕ, ℤ, List, length, Option, Result, Ok, Err}
use Rattle.ledger_model.specs.declared.block.Block.{Block}
use Rattle.ledger_model.specs.declared.outcome.PlacedOutcome.{PlacedOutcome}
use Rattle.ledger_model.specs.Journal.{journal_bytes}
use Rattle.ledger_model.specs.Report.{report}
use Rattle.ledger_model.specs.Script.{Placed}
use Rattle.outside.specs.Told.{StoreTold, held}
use Rattle.laws_history.specs.Standings.{IsStanding}
use Rattle.laws_history.specs.Calls.{Span, span}
use Rattle.laws_history.specs.Records.{greatest, mask_of}
use Rattle.laws_history.specs.Stores.{Holding, IsSynced}
use Rattle.journal_reader.specs.Loads.{IsLoaded}
use Rattle.cli_model.specs.Images.{IsStill}
use Rattle.cli_model.specs.Runs.{Terms, HoldsRun, TellsRun}
use Rattle.cli_model.specs.Stores.{IsUnfailed}
use Rattle.ledger_core.specs.Images.{IsSoundTail, ReloadGives}
use Rattle.journal_keeper.specs.Keeping.{MayBeCut}
use Rattle.ledger_core.specs.Tails.{TailHeld}
use Rattle.ledger_shared.specs.Behind.{IsKept, Keeps}
use Rattle.ledger_shared.specs.Ran.{AllHaveRun}
use Rattle.ledger_cli.specs.Stops.{IsTailStop}
use Rattle.ledger_cli.specs.declared.command_fault.CommandFault.{CommandFault}
use Rattle.ledger_cli.specs.declared.command_fault.CommandFault.TheVariants as stop

module _ {S C : Type 0} (told : S → StoreTold) where
  -- ---- the begin

  -- the tail is that of the journal that the store held, where this mask is given
  pub record HasLoaded (given : ℕ) (before : StoreTold) (opened : TailHeld S C) : Type 0 where
    pub journal : IsLoaded (held before) opened.standing.blocks opened.marked
    pub sound : IsStanding opened.standing
    pub mask : opened.standing.mask ≡ mask_of given opened.standing.blocks
    pub last : opened.standing.last ≡ greatest opened.standing.mask opened.standing.blocks
    pub content : (told opened.store).content ≡ before.content
    pub faults : (told opened.store).faults ≡ before.faults
    pub images : ReloadGives told before opened

  -- ---- the cut at the end

  -- the store holds the lines of the blocks alone, all of them synced where they were or where a cut was made
  pub record IsSettled (ran now : TailHeld S C) : Type 0 where
    pub standing : now.standing ≡ ran.standing
    pub clock : now.clock ≡ ran.clock
    pub holds : Holding now.standing.blocks (held (told now.store))
    pub fine : (told now.store).faults ≡ (told ran.store).faults
    pub synced : IsKept told ran → IsSynced (told now.store)
    pub clean : now.marked ≡ false
    pub images : (tried : List Block) → IsSoundTail told tried ran → IsSoundTail told [] now

  -- the store failed or memory ran out, and the bytes are as they were or cut to the lines of the blocks
  pub record IsUnsettled (ran now : TailHeld S C) (why : CommandFault) : Type 0 where
    pub clock : now.clock ≡ ran.clock
    pub cut : MayBeCut (held (told ran.store)) (held (told now.store)) (length (journal_bytes ran.standing.blocks))
    pub stop : IsTailStop why (span (told ran.store) (told now.store))
    pub standing : now.standing ≡ ran.standing
    pub images : (tried : List Block) → IsSoundTail told tried ran → IsSoundTail told tried now

  -- what there was is given with the settled tail
  abbrev pub Comes :
      TailHeld S C → List PlacedOutcome → Result (List PlacedOutcome) CommandFault → TailHeld S C → Type 0
  Comes ran outcomes (Ok kept) now = (kept ≡ outcomes) × IsSettled ran now
  Comes ran outcomes (Err why) now = IsUnsettled ran now why

-- ---- the run

module _ {S C : Type 0} (told : S → StoreTold) (answers : C → Option (List ℤ)) (always : C → Option ℤ) (workers : ℕ)
    (jobs : List Placed) (opened : TailHeld S C) where
  -- all jobs were run from the tail, and what they left was settled
  pub record HasSettled (outcomes : List PlacedOutcome) (now : TailHeld S C) : Type 0 where
    pub ran : TailHeld S C
    pub all : AllHaveRun told answers always workers jobs opened ran outcomes
    pub settled : IsSettled told ran now

  -- they were run, and it wasn't
  pub record HasStopped (why : CommandFault) (now : TailHeld S C) : Type 0 where
    pub ran : TailHeld S C
    pub outcomes : List PlacedOutcome
    pub all : AllHaveRun told answers always workers jobs opened ran outcomes
    pub stopped : IsUnsettled told ran now why

  -- or memory ran out, and none was run
  abbrev pub Settles : Result (List PlacedOutcome) CommandFault → TailHeld S C → Type 0
  Settles (Ok outcomes) now = HasSettled outcomes now
  Settles (Err why) now = HasStopped why now ⊎ ((why ≡ stop.OutOfMemory) × Keeps told answers always opened now [])

-- the text is the report of the outcomes, if there are some, or memory ran out
abbrev pub Reports : List Block → Result (List PlacedOutcome) CommandFault → Result (List ℕ) CommandFault → Type 0
Reports blocks (Ok outcomes) (Ok text) = text ≡ report blocks outcomes
Reports blocks (Ok outcomes) (Err why) = why ≡ stop.OutOfMemory
Reports blocks (Err why) (Ok text) = ⊥
Reports blocks (Err why) (Err other) = other ≡ why

-- ---- what is told of the whole

-- the store's content is as at entry, or it holds the journal of a run of the jobs or of a part of it
abbrev pub LeavesJobs : ℕ → List Placed → Span StoreTold → Terms → Type 0
LeavesJobs workers jobs store terms = IsStill store ⊎ HoldsRun terms workers jobs store

-- the store didn't fail, or as often as the outcomes of such a run say
abbrev pub TellsJobs : ℕ → List Placed → Span StoreTold → Terms → Type 0
TellsJobs workers jobs store terms = IsUnfailed store ⊎ TellsRun terms workers jobs store

-- the run has no report for this reason; if memory ran out, no failure of the store is hidden
pub record IsEnded (why : CommandFault) (workers : ℕ) (jobs : List Placed) (store : Span StoreTold) (terms : Terms)
    : Type 0 where
  pub left : LeavesJobs workers jobs store terms
  pub tells : why ≡ stop.OutOfMemory → TellsJobs workers jobs store terms
