-- How the run of a workload goes on from the tail of an empty journal, and what it leaves.
use Rattle.std.specs.Prelude.{◌≡◌, ◌⊎◌, ◌<◌, ◌∷◌, ℕ, ℤ, List, length, Option, Result, Ok, Err}
use Rattle.ledger_model.specs.declared.block.Block.{Block}
use Rattle.ledger_model.specs.declared.outcome.PlacedOutcome.{PlacedOutcome}
use Rattle.ledger_model.specs.declared.script.Job.{Job}
use Rattle.ledger_model.specs.Script.{Placed}
use Rattle.workload.specs.Made.{made_first, made_sessions}
use Rattle.workload.specs.Sums.{summary, summary_text}
use Rattle.outside.specs.Told.{StoreTold}
use Rattle.cli_args.specs.declared.MakeOptions.{MakeOptions}
use Rattle.laws_history.specs.Calls.{Span}
use Rattle.cli_model.specs.Clocks.{Answers}
use Rattle.cli_model.specs.Making.{IsSummaryOf, LeavesWorkload, TellsWorkload}
use Rattle.cli_model.specs.Stores.{IsUnfailed, Reads}
use Rattle.ledger_core.specs.Tails.{TailHeld}
use Rattle.run_after_setup.specs.FirstRuns.{HasBegun, RanInTurn}
use Rattle.ledger_cli.specs.Runs.{HasSettled, HasStopped}
use Rattle.ledger_cli.specs.Stops.{IsLoadStop}
use Rattle.ledger_cli.specs.declared.make.Workload.{Workload}
use Rattle.ledger_cli.specs.declared.command_fault.CommandFault.{CommandFault}
use Rattle.ledger_cli.specs.declared.command_fault.CommandFault.TheVariants as stop

-- the transactions are those of the options
pub record IsWorkload (o : MakeOptions) (w : Workload) : Type 0 where
  pub first : w.first ≡ made_first
  pub sessions : w.sessions ≡ made_sessions o.seed o.sessions o.transactions

-- the job of session 0
abbrev pub at_first : Job → Placed
at_first job = record { place = record { session = 0; transaction = 1 }; job = job }

-- ---- the run

module _ {S C : Type 0} (told : S → StoreTold) (answers : C → Option (List ℤ)) (always : C → Option ℤ) (workers : ℕ)
    (first : Placed) (jobs : List Placed) (opened : TailHeld S C) where
  -- the first job was run alone, with all others it was run as one run, and what they left was settled
  pub record HasMade (outcomes : List PlacedOutcome) (now : TailHeld S C) : Type 0 where
    pub mid : TailHeld S C
    pub begun : HasBegun told answers always first opened mid
    pub settled : HasSettled told answers always workers (first ∷ jobs) opened (begun.outcome ∷ outcomes) now
    pub in_turn : RanInTurn told workers opened mid settled.all.served settled.all.entries

  -- so they were run, and what they left wasn't settled
  pub record HasHalted (why : CommandFault) (now : TailHeld S C) : Type 0 where
    pub mid : TailHeld S C
    pub stopped : HasStopped told answers always workers (first ∷ jobs) opened why now
    pub in_turn : RanInTurn told workers opened mid stopped.all.served stopped.all.entries

  -- or memory ran out after the first job, or before it
  abbrev pub MakesAll : Result (List PlacedOutcome) CommandFault → TailHeld S C → Type 0
  MakesAll (Ok outcomes) now = HasMade outcomes now
  MakesAll (Err why) now =
      HasHalted why now
      ⊎ ((why ≡ stop.OutOfMemory) × (HasBegun told answers always first opened now ⊎ (now ≡ opened)))

-- the text is the summary of the blocks, if all was settled, or memory ran out
abbrev pub SumsUp : List Block → Result (List PlacedOutcome) CommandFault → Result (List ℕ) CommandFault → Type 0
SumsUp blocks (Ok outcomes) (Ok text) = text ≡ summary_text (summary blocks)
SumsUp blocks (Ok outcomes) (Err why) = why ≡ stop.OutOfMemory
SumsUp blocks (Err why) (Ok text) = ⊥
SumsUp blocks (Err why) (Err other) = other ≡ why

-- ---- the whole

-- the journal that was read has this number of blocks already
pub record HasBlocks (count : ℕ) (store : Span StoreTold) : Type 0 where
  pub blocks : List Block
  pub reads : Reads store blocks
  pub some : 0 < length blocks
  pub count_is : count ≡ length blocks

abbrev pub IsMakeStop : CommandFault → Span StoreTold → Type 0
IsMakeStop (stop.NotEmpty count) store = HasBlocks count store
IsMakeStop why store = IsLoadStop why store

-- There is no summary for this cause, and the store holds what it held, or the journal of the run or a part of it. If
-- memory ran out, no failure of the store is hidden.
pub record IsUnmade (o : MakeOptions) (why : CommandFault) (store : Span StoreTold) (clock : Span Answers)
    : Type 0 where
  pub left : LeavesWorkload o store clock
  pub is : IsMakeStop why store
  pub tells : why ≡ stop.OutOfMemory → IsUnfailed store ⊎ TellsWorkload o store clock

-- the text is the summary of the workload's run, or there is none
abbrev pub Makes : MakeOptions → Result (List ℕ) CommandFault → Span StoreTold → Span Answers → Type 0
Makes o (Ok text) store clock = IsSummaryOf o store clock text
Makes o (Err why) store clock = IsUnmade o why store clock
