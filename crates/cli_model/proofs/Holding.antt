-- A run that was told whole holds its journal, and its outcomes tell of each failure.
use Rattle.std.proofs.Common.{ℕ, List, []}
use Rattle.ledger_model.specs.Script.{Placed}
use Rattle.cli_args.specs.declared.MakeOptions.{MakeOptions}
use Rattle.outside.specs.Told.{StoreTold, held}
use Rattle.laws_history.specs.Calls.{Span}
use Rattle.laws_history.specs.Records.{RunRecord}
use Rattle.laws_history.proofs.Stored.{all-HoldingWithRest}
use Rattle.cli_model.specs.Clocks.{Answers}
use Rattle.cli_model.specs.Making.{IsSummaryOf, TellsMade, made_jobs, made_terms}
use Rattle.cli_model.proofs.Imaged.{alone_from}
use Rattle.cli_model.specs.Runs.{Terms, IsDone, IsLeft, IsReportOf, HoldsRun, HoldsRunAfter, TellsRun}

pub done_leaves : (terms : Terms) (workers : ℕ) (jobs : List Placed) (store : Span StoreTold) (t : RunRecord)
    → IsDone terms workers jobs store t
    → IsLeft terms workers jobs store t
done_leaves terms workers jobs store t done = record {
  of_run = done.of_run;
  fits = done.fits.blocks;
  digests = done.fits.digests;
  holding = all-HoldingWithRest t.after (held store.after) done.holding;
  images = λ rest. alone_from t.before t.after store.after done.fits.blocks.begins (done.images rest);
}

pub reported_holds : (terms : Terms) (workers : ℕ) (jobs : List Placed) (store : Span StoreTold) (text : List ℕ)
    → IsReportOf terms workers jobs store text
    → HoldsRun terms workers jobs store
reported_holds terms workers jobs store text r =
    record { told = r.told; left = done_leaves terms workers jobs store r.told r.done }

-- so does one that began on an empty journal
pub summarized_holds : (o : MakeOptions) (store : Span StoreTold) (clock : Span Answers) (text : List ℕ)
    → IsSummaryOf o store clock text
    → HoldsRunAfter [] (made_terms o clock) o.workers (made_jobs o) store
summarized_holds o store clock text r = record {
  told = r.told;
  before_is = r.empty;
  left = done_leaves (made_terms o clock) o.workers (made_jobs o) store r.told r.done;
}

-- its outcomes tell how often the store has failed
pub done_tells : (terms : Terms) (workers : ℕ) (jobs : List Placed) (store : Span StoreTold) (t : RunRecord)
    → IsDone terms workers jobs store t → TellsRun terms workers jobs store
done_tells terms workers jobs store t done = record { told = t; of_run = done.of_run; fits = done.fits }

pub summarized_tells : (o : MakeOptions) (store : Span StoreTold) (clock : Span Answers) (text : List ℕ)
    → IsSummaryOf o store clock text
    → TellsMade (made_terms o clock) o.workers (made_jobs o) store
summarized_tells o store clock text r = record {
  tells = record { told = r.told; of_run = r.done.of_run; fits = r.done.fits };
  empty = r.empty;
  alone = r.alone;
}
