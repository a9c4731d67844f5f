-- A job that runs first and alone: each of the others begins when it is over (the ledger's own).
use Rattle.std.specs.Prelude.{◌≡◌, ℕ, List, [], ◌∷◌, ◌++◌}
use Rattle.std.specs.List.{AllByRecursion}
use Rattle.turn_lock.specs.declared.view.Known.{Known}
use Rattle.laws_machine.specs.Entries.{Entry, Opening}
use Rattle.laws_history.specs.Claims.{RunsBefore}
use Rattle.laws_history.specs.Records.{RunRecord}
use Rattle.laws_history.specs.Runs.{IsRunBy, Served, opening_of}
use Rattle.laws_workload.specs.Joining.{HaveWorked, OpensBehind}

-- One worker ran the first job, which left these entries, and then the run's workers ran the others, which left those
-- behind them.
pub record RanAfterFirst (t : RunRecord) (first : Served) (ss : List Served) (es more : List Entry) : Type 0 where
  pub alone : HaveWorked (opening_of t) 1 (first ∷ []) es
  pub behind : Opening
  pub opens : OpensBehind (opening_of t) es behind
  pub all : HaveWorked behind t.workers ss more

-- so the first job ran before each of the others, whichever worker ran it
abbrev pub FirstIsOver : Type 0
FirstIsOver =
    (t : RunRecord) (first : Served) (ss : List Served) (es more : List Entry) (pass_of : ℕ → Known Entry)
    → first.placed.place.session ≡ 0 → RanAfterFirst t first ss es more
    → IsRunBy t (first ∷ ss) (es ++ more) pass_of
    → AllByRecursion (λ (s : Served). RunsBefore t first.outcome s.placed s.outcome) ss
