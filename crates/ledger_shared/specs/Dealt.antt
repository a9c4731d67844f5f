-- What a worker does with the sessions of a script that are dealt to it.
use Rattle.std.specs.Prelude.{◌≡◌, ℕ, List}
use Rattle.outside.specs.Told.{StoreTold}
use Rattle.ledger_model.specs.declared.outcome.PlacedOutcome.{PlacedOutcome}
use Rattle.ledger_model.specs.Script.{Placed}
use Rattle.ledger_shared.specs.Behind.{opening_of}
use Rattle.ledger_shared.specs.Sessions.{Serves, course, dealt_jobs}
use Rattle.ledger_shared.specs.Workers.{WorkerHeld}

module _ {S C : Type 0} (told : S → StoreTold) (workers rest : ℕ) (jobs : List Placed) where
  -- It has run the jobs of the sessions that leave this rest, and stays of its ledger. The outcomes stand after those
  -- before.
  pub record HasRun (before : WorkerHeld S C) (kept : List PlacedOutcome) (after : WorkerHeld S C)
      (outcomes : List PlacedOutcome) : Type 0 where
    pub table : after.table ≡ before.table
    pub opened : after.opened ≡ before.opened
    pub serves : Serves (opening_of told before.opened) (dealt_jobs workers rest jobs) (course kept before.known)
        (course outcomes after.known)
