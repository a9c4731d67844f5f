-- The command `run`: the run of jobs on a store's journal, its record, and what it leaves in the store; and the run of
-- a script, with its report.
use Rattle.std.specs.Prelude.{◌≡◌, ◌⊎◌, ℕ, List, Option}
use Rattle.std.specs.List.{AllByRecursion}
use Rattle.ledger_model.specs.declared.block.Block.{Block}
use Rattle.ledger_model.specs.declared.script.Job.{Job}
use Rattle.ledger_model.specs.Script.{Placed, all_placed}
use Rattle.ledger_model.specs.Report.{report}
use Rattle.outside.specs.Told.{StoreTold, held}
use Rattle.cli_args.specs.declared.RunOptions.{RunOptions}
use Rattle.laws_history.specs.Calls.{Span}
use Rattle.laws_history.specs.Records.{RunRecord, Times, FitsBlocks, made}
use Rattle.laws_history.specs.Stores.{HasJournal, Holding, IsSynced, HoldingWithRest}
use Rattle.laws_history.specs.Alone.{RunsInOrder}
use Rattle.laws_history.specs.Claims.{Fits, IsOfOwnDigest}
use Rattle.laws_history.specs.Runs.{WasRun}
use Rattle.cli_model.specs.Calls.{Outside}
use Rattle.cli_model.specs.Claims.{Claim, Status, BadInputLine, DamagedLine, SourceLine, StoreLine, bad_input, damaged, source_failed, store_failed}
use Rattle.cli_model.specs.Clocks.{Answers, given_by, AreTimes, GaveFirst}
use Rattle.cli_model.specs.Images.{DoneLeaves, IsStill, StoppedLeaves}
use Rattle.cli_model.specs.Inputs.{HasScript, IsNoScript, SpellsScript}
use Rattle.cli_model.specs.Stores.{IsUncalled}

-- what the words and the clock give a run: the mask of the ids, where they tell it, and the times of the blocks
pub record Terms : Type 0 where
  pub given : Option ℕ
  pub times : Times

-- the terms are those of the words' options
pub record AreTerms (o : RunOptions) (clock : Span Answers) (terms : Terms) : Type 0 where
  pub given : terms.given ≡ given_by o.ids clock
  pub answered : GaveFirst o.ids clock
  pub times : AreTimes o.time clock terms.times

-- the record is that of a run of these jobs on these terms by this number of workers on the store's journal
pub record IsOfRun (terms : Terms) (workers : ℕ) (jobs : List Placed) (store : Span StoreTold) (t : RunRecord)
    : Type 0 where
  pub found : HasJournal t.before (held store.before)
  pub given : t.given ≡ terms.given
  pub times : t.times ≡ terms.times
  pub workers_are : t.workers ≡ workers
  pub jobs_are : t.jobs ≡ jobs
  pub opened : t.opened ≡ store.before.faults
  pub closed : t.closed ≡ store.after.faults

-- The jobs were run by the workers, by one worker alone in their order, and the store holds the journal that is left,
-- synced where it was synced. No stop of the machine takes a block of it away.
pub record IsDone (terms : Terms) (workers : ℕ) (jobs : List Placed) (store : Span StoreTold) (t : RunRecord)
    : Type 0 where
  pub of_run : IsOfRun terms workers jobs store t
  pub run : WasRun t
  pub fits : Fits t
  pub in_order : t.workers ≡ 1 → RunsInOrder t
  pub holding : Holding t.after (held store.after)
  pub synced : IsSynced store.before → IsSynced store.after
  pub images : DoneLeaves store t.after

-- The store holds the journal of a run of the jobs or of a part of it, whose blocks have the digests that their jobs
-- give, and perhaps a rest that is no whole line. No stop of the machine takes a block away with which the run began.
pub record IsLeft (terms : Terms) (workers : ℕ) (jobs : List Placed) (store : Span StoreTold) (t : RunRecord)
    : Type 0 where
  pub of_run : IsOfRun terms workers jobs store t
  pub fits : FitsBlocks t
  pub digests : AllByRecursion (IsOfOwnDigest t.jobs) (made t)
  pub holding : HoldingWithRest t.after (held store.after)
  pub images : StoppedLeaves store t.before

-- the jobs were run on these terms, and the text is the report of that run
pub record IsReportOf (terms : Terms) (workers : ℕ) (jobs : List Placed) (store : Span StoreTold) (text : List ℕ)
    : Type 0 where
  pub told : RunRecord
  pub done : IsDone terms workers jobs store told
  pub text_is : text ≡ report told.after told.outcomes

-- The store holds the journal of such a run or of a part of it, which began with these blocks.
pub record HoldsRunAfter (before : List Block) (terms : Terms) (workers : ℕ) (jobs : List Placed)
    (store : Span StoreTold) : Type 0 where
  pub told : RunRecord
  pub before_is : told.before ≡ before
  pub left : IsLeft terms workers jobs store told

-- the store holds the journal of such a run or of a part of it
pub record HoldsRun (terms : Terms) (workers : ℕ) (jobs : List Placed) (store : Span StoreTold) : Type 0 where
  pub told : RunRecord
  pub left : IsLeft terms workers jobs store told

-- The jobs were run on these terms, and the store has failed as often as the outcomes of that run say.
pub record TellsRun (terms : Terms) (workers : ℕ) (jobs : List Placed) (store : Span StoreTold) : Type 0 where
  pub told : RunRecord
  pub of_run : IsOfRun terms workers jobs store told
  pub fits : Fits told

-- ---- by the words

-- the whole input was read, it is a script, and this is the report of its run with these options
pub record Reports (o : RunOptions) (x : Outside) (text : List ℕ) : Type 0 where
  pub script : List (List Job)
  pub has : HasScript o.rules x.source script
  pub terms : Terms
  pub are : AreTerms o x.clock terms
  pub reported : IsReportOf terms o.workers (all_placed script) x.store text

-- the store holds the journal of such a run or a part of one
pub record HoldsAsked (o : RunOptions) (x : Outside) : Type 0 where
  pub script : List (List Job)
  pub has : HasScript o.rules x.source script
  pub terms : Terms
  pub are : AreTerms o x.clock terms
  pub holds : HoldsRun terms o.workers (all_placed script) x.store

-- what a run leaves in its store, also where it was stopped: its content, or the journal of the run or a part of it
abbrev pub LeavesRun : RunOptions → Outside → Type 0
LeavesRun o x = IsStill x.store ⊎ HoldsAsked o x

-- such a run's outcomes say how often the store has failed
pub record TellsAsked (o : RunOptions) (x : Outside) : Type 0 where
  pub script : List (List Job)
  pub has : HasScript o.rules x.source script
  pub terms : Terms
  pub are : AreTerms o x.clock terms
  pub tells : TellsRun terms o.workers (all_placed script) x.store

-- ---- the claim

-- At 2 the input is refused, also for its rules, and at 4 the source failed, before the store is called. At 3 the input
-- is a script, and the journal is damaged. At 5 it is one, and the store failed when the journal was read or was to be
-- cut at the end.
abbrev pub RunRefuses : Type 0 → RunOptions → Outside → Status → List ℕ → Type 0
RunRefuses same o x status line =
    ((status ≡ bad_input) × BadInputLine (λ cause. IsNoScript o.rules cause x.source) line × IsUncalled same x.store)
    ⊎ ((status ≡ damaged) × SpellsScript o.rules x.source × DamagedLine x line)
    ⊎ ((status ≡ source_failed) × SourceLine x line × IsUncalled same x.store)
    ⊎ ((status ≡ store_failed) × SpellsScript o.rules x.source × StoreLine x line)

abbrev pub runs : RunOptions → Claim
runs o = record {
  gives = Reports o;
  refuses = λ same. RunRefuses same o;
  keeps = λ same x. LeavesRun o x;
  tells = TellsAsked o;
}
