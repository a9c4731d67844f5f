-- What a job leaves that was run alone, and what a script's jobs leave that were run after it.
use Rattle.std.specs.Prelude.{◌≡◌, ◌∷◌, [], ◌++◌, ℕ, ℤ, List, Option}
use Rattle.outside.specs.Told.{StoreTold}
use Rattle.ledger_model.specs.declared.outcome.PlacedOutcome.{PlacedOutcome}
use Rattle.ledger_model.specs.Script.{Placed}
use Rattle.laws_machine.specs.Entries.{Entry}
use Rattle.laws_history.specs.Runs.{Served}
use Rattle.laws_workload.specs.Joining.{HaveWorked, OpensBehind}
use Rattle.ledger_core.specs.Tails.{TailHeld}
use Rattle.ledger_shared.specs.Behind.{opening_of}
use Rattle.ledger_shared.specs.Ran.{AllHaveRun}

-- One worker ran the first job, which left these entries, and then the run's workers ran the others, which left those
-- behind them.
pub record RanInTurn {S C : Type 0} (told : S → StoreTold) (workers : ℕ) (opened mid : TailHeld S C)
    (served : List Served) (entries : List Entry) : Type 0 where
  pub first : Served
  pub others : List Served
  pub es : List Entry
  pub more : List Entry
  pub served_are : served ≡ first ∷ others
  pub entries_are : entries ≡ es ++ more
  pub alone : HaveWorked (opening_of told opened) 1 (first ∷ []) es
  pub opens : OpensBehind (opening_of told opened) es (opening_of told mid)
  pub rest : HaveWorked (opening_of told mid) workers others more

module _ {S C : Type 0} (told : S → StoreTold) (answers : C → Option (List ℤ)) (always : C → Option ℤ) where
  -- the first job was run alone
  pub record HasBegun (first : Placed) (opened now : TailHeld S C) : Type 0 where
    pub outcome : PlacedOutcome
    pub alone : AllHaveRun told answers always 1 (first ∷ []) opened now (outcome ∷ [])

  -- it was, and then the others were, and with all of them it was run as one run
  pub record HaveAllRun (workers : ℕ) (first : Placed) (jobs : List Placed) (opened : TailHeld S C)
      (outcomes : List PlacedOutcome) (now : TailHeld S C) : Type 0 where
    pub mid : TailHeld S C
    pub begun : HasBegun first opened mid
    pub all : AllHaveRun told answers always workers (first ∷ jobs) opened now (begun.outcome ∷ outcomes)
    pub in_turn : RanInTurn told workers opened mid all.served all.entries
