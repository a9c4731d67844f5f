use Rattle.std.proofs.Common.{◌≡◌, codes, sym, subst}
use Rattle.std.specs.Prelude.{IfOk}
use Rattle.ion_values.specs.declared.value.Value.{Value}
use Rattle.stream_out.specs.declared.record.Record.{Record}
use Rattle.stream_out.specs.Records.{typed, record_value}
use Rattle.stream_out.proofs.values.record_value.Goals as goal

pub returns-in-Created : goal.returns-in-Created
returns-in-Created c =
    subst (λ (r : Record). IfOk c.control_value.result (λ (v : Value). v ≡ record_value r)) (sym c.in-Created.is) c.control_value.ensures

pub returns-in_ok-summary_value-in-Summary : goal.returns-in_ok-summary_value-in-Summary
returns-in_ok-summary_value-in-Summary c =
    subst (λ (r : Record). IfOk c.typed.result (λ (v : Value). v ≡ record_value r)) (sym c.in-Summary.is)
    (subst (λ (payload : Value). IfOk c.typed.result (λ (v : Value). v ≡ typed (codes "BLOCK_SUMMARY") payload))
    c.in_ok-summary_value-in-Summary.ensures c.typed.ensures)

pub returns-in_ok-details_value-in-Details : goal.returns-in_ok-details_value-in-Details
returns-in_ok-details_value-in-Details c =
    subst (λ (r : Record). IfOk c.typed-in-Details.result (λ (v : Value). v ≡ record_value r)) (sym c.in-Details.is)
    (subst (λ (payload : Value). IfOk c.typed-in-Details.result (λ (v : Value). v ≡ typed (codes "REVISION_DETAILS") payload))
    c.in_ok-details_value-in-Details.ensures c.typed-in-Details.ensures)

pub returns-in-Completed : goal.returns-in-Completed
returns-in-Completed c =
    subst (λ (r : Record). IfOk c.control_value-in-Completed.result (λ (v : Value). v ≡ record_value r)) (sym c.in-Completed.is)
    c.control_value-in-Completed.ensures
