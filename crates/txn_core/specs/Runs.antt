-- How all statements of a transaction end.
use Rattle.std.specs.Prelude.{◌≡◌}
use Rattle.ledger_model.specs.Run as run
use Rattle.ledger_model.specs.Run.{ran, refused}
use Rattle.txn_core.specs.declared.runs.Ran as held
use Rattle.txn_core.specs.declared.runs.Ran.TheVariants as end
use Rattle.txn_core.specs.Opened.{Opened}

abbrev pub ran_of : held.Ran → run.Ran
ran_of (end.Done t) = ran t.done
ran_of (end.Refused statement cause) = refused statement cause

-- it is the same transaction, but for what its statements did
abbrev pub IsRunOf : Opened → held.Ran → Type 0
IsRunOf t (end.Done now) = now ≡ record t { done = now.done }
IsRunOf t (end.Refused statement cause) = Unit {0}
