-- The command `make`: the run of a workload that is made from a seed, on an empty journal, its summary, and what it
-- leaves in the store.
use Rattle.std.specs.Prelude.{◌≡◌, ◌<◌, ◌⊎◌, ℕ, ◌+◌, ◌*◌, List, [], ◌∷◌, length, Some}
use Rattle.std.specs.List.{AllByRecursion}
use Rattle.id_seed.specs.Seed.{mask_of}
use Rattle.ledger_model.specs.declared.block.Block.{Block}
use Rattle.ledger_model.specs.Script.{Placed}
use Rattle.workload.specs.Laws.{made_total}
use Rattle.workload.specs.Made.{made_first, made_placed}
use Rattle.workload.specs.Sums.{summary, summary_text}
use Rattle.workload.specs.declared.totals.Totals.{Totals}
use Rattle.outside.specs.Told.{StoreTold}
use Rattle.cli_args.specs.declared.MakeOptions.{MakeOptions}
use Rattle.laws_history.specs.Calls.{Span}
use Rattle.laws_history.specs.Records.{RunRecord}
use Rattle.cli_model.specs.Calls.{Outside}
use Rattle.cli_model.specs.Claims.{Claim, Status, DamagedLine, StoreLine, bad_input, damaged, store_failed}
use Rattle.cli_model.specs.Clocks.{Answers, times_between}
use Rattle.cli_model.specs.FirstAlone.{FirstRanAlone}
use Rattle.cli_model.specs.Images.{IsStill}
use Rattle.cli_model.specs.Inputs.{IsIdle}
use Rattle.cli_model.specs.Lines.{not_empty_line}
use Rattle.cli_model.specs.Runs.{Terms, IsDone, HoldsRunAfter, TellsRun}
use Rattle.cli_model.specs.Stores.{Reads}

-- the mask is that of the workload's seed, and the clock is asked for the times of its blocks
abbrev pub made_terms : MakeOptions → Span Answers → Terms
made_terms o clock = record { given = Some (mask_of o.seed); times = times_between clock.before clock.after }

abbrev pub made_jobs : MakeOptions → List Placed
made_jobs o = made_placed o.seed o.sessions o.transactions

-- the transaction of session 0
abbrev pub first_job : Placed
first_job = record { place = record { session = 0; transaction = 1 }; job = made_first }

-- only the first of the blocks may be that of session 0, whose transaction runs first and alone
abbrev pub ComesFirst : List Block → Type 0
ComesFirst [] = Unit {0}
ComesFirst (b ∷ bs) = AllByRecursion (λ (later : Block). 0 < later.info.place.session) bs

-- what the whole workload adds up to
abbrev pub made_totals : MakeOptions → Totals
made_totals o = record {
  blocks = o.sessions * o.transactions + 1;
  documents = o.sessions * o.transactions;
  amounts = made_total o.seed o.sessions o.transactions;
}

-- The workload was run on an empty journal, the transaction of session 0 first and alone, and the text is the summary
-- of the blocks that are left. Where each transaction has its block, these are the workload's own numbers.
pub record IsSummaryOf (o : MakeOptions) (store : Span StoreTold) (clock : Span Answers) (text : List ℕ) : Type 0 where
  pub told : RunRecord
  pub empty : told.before ≡ []
  pub first : ComesFirst told.after
  pub alone : FirstRanAlone told
  pub done : IsDone (made_terms o clock) o.workers (made_jobs o) store told
  pub text_is : text ≡ summary_text (summary told.after)
  pub adds_up : length told.after ≡ o.sessions * o.transactions + 1 → text ≡ summary_text (made_totals o)

-- What the run of a workload leaves in its store, also if it was stopped: the store's content, or the journal of the
-- run or a part of it. That run began on an empty journal.
abbrev pub LeavesWorkload : MakeOptions → Span StoreTold → Span Answers → Type 0
LeavesWorkload o store clock =
    IsStill store ⊎ HoldsRunAfter [] (made_terms o clock) o.workers (made_jobs o) store

-- The jobs were run on an empty journal, the first one alone, and the store has failed as often as the outcomes say.
pub record TellsMade (terms : Terms) (workers : ℕ) (jobs : List Placed) (store : Span StoreTold) : Type 0 where
  pub tells : TellsRun terms workers jobs store
  pub empty : tells.told.before ≡ []
  pub alone : FirstRanAlone tells.told

-- so were all jobs of the workload, or if memory ran out after the first transaction, that one
abbrev pub TellsWorkload : MakeOptions → Span StoreTold → Span Answers → Type 0
TellsWorkload o store clock =
    TellsMade (made_terms o clock) o.workers (made_jobs o) store
    ⊎ TellsMade (made_terms o clock) 1 (first_job ∷ []) store

-- ---- the claim

-- the journal that was read has blocks already
pub record NotEmptyLine (x : Outside) (line : List ℕ) : Type 0 where
  pub blocks : List Block
  pub reads : Reads x.store blocks
  pub some : 0 < length blocks
  pub line_is : line ≡ not_empty_line (length blocks)

-- At 2 the journal isn't empty, and at 3 it is damaged. At 5 the store failed when the journal was read or was to be
-- cut at the end.
abbrev pub MakeRefuses : Outside → Status → List ℕ → Type 0
MakeRefuses x status line =
    ((status ≡ bad_input) × NotEmptyLine x line)
    ⊎ ((status ≡ damaged) × DamagedLine x line)
    ⊎ ((status ≡ store_failed) × StoreLine x line)

-- The source isn't read.
abbrev pub makes : MakeOptions → Claim
makes o = record {
  gives = λ x text. IsSummaryOf o x.store x.clock text;
  refuses = λ same x status line. MakeRefuses x status line;
  keeps = λ same x. LeavesWorkload o x.store x.clock × IsIdle x.source;
  tells = λ x. TellsWorkload o x.store x.clock;
}
