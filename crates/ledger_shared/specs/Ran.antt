-- What a run of a script's jobs by several workers leaves: the tail, and the outcomes in the script's order.
use Rattle.std.specs.Prelude.{◌≡◌, ℕ, ℤ, List, map, Option}
use Rattle.outside.specs.Told.{StoreTold}
use Rattle.ledger_model.specs.declared.outcome.PlacedOutcome.{PlacedOutcome}
use Rattle.ledger_model.specs.Script.{Placed}
use Rattle.turn_lock.specs.declared.view.Known.{Known}
use Rattle.laws_machine.specs.Entries.{Entry}
use Rattle.laws_history.specs.Runs.{AreWorkers, Served, told_of}
use Rattle.ledger_core.specs.Tails.{TailHeld}
use Rattle.ledger_shared.specs.Behind.{IsRightFor, Keeps, opening_of}

module _ {S C : Type 0} (told : S → StoreTold) (answers : C → Option (List ℤ)) (always : C → Option ℤ) where
  -- The jobs were run by the workers, each one's in the order of the script, and these are their outcomes, in that
  -- order. The entries that the workers made brought the tail from what it was as it was opened to what it is.
  pub record AllHaveRun (workers : ℕ) (jobs : List Placed) (opened tail : TailHeld S C) (outcomes : List PlacedOutcome)
      : Type 0 where
    pub entries : List Entry
    pub keeps : Keeps told answers always opened tail entries
    pub right : IsRightFor told opened entries
    pub served : List Served
    pub jobs_are : jobs ≡ map (λ (s : Served). s.placed) served
    pub outcomes_are : outcomes ≡ map told_of served
    pub pass_of : ℕ → Known Entry
    pub workers_are : AreWorkers (opening_of told opened) workers served entries pass_of
