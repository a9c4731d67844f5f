-- What is stored of one document after another.
use Rattle.std.specs.Prelude.{◌≡◌, Option, Some, None, Result, Ok, Err}
use Rattle.ion_values.specs.declared.value.Value.{Value}
use Rattle.ql_types.specs.declared.TableId.{TableId}
use Rattle.ledger_model.specs.declared.outcome.Refusal.{Refusal}
use Rattle.ledger_model.specs.Run.{Progress, Effect, changed_by, new_document, next_id, not_stored}
use Rattle.txn_core.specs.declared.stopped.ExecuteFault.{ExecuteFault}
use Rattle.txn_core.specs.Effects.{both}
use Rattle.txn_core.specs.Opened.{Opened}
use Rattle.txn_core.specs.Stops.{StopsFor}

-- a value, where no cause stands against it
abbrev pub without : {A : Type 0} → Option Refusal → Result A Refusal → Result A Refusal
without None wanted = wanted
without (Some cause) wanted = Err cause

-- the transaction's progress with the documents so far
abbrev pub so_far : Opened → Effect → Progress
so_far t e = changed_by t.done e

-- the value is a document more behind those so far, or it isn't stored for this cause
abbrev pub Stores : Opened → TableId → Value → Effect → Result (Unit {0}) ExecuteFault → Effect → Type 0
Stores t table v e (Ok done) now =
    (not_stored (so_far t e) v ≡ None) × (now ≡ both e (new_document (next_id t.begun (so_far t e)) table v))
Stores t table v e (Err stopped) now = StopsFor stopped (λ cause. not_stored (so_far t e) v ≡ Some cause)
