use Rattle.std.proofs.Common.{◌∙◌, ap, sym}
use Rattle.ledger_model.specs.Values.{fields_in}
use Rattle.stream_out.proofs.OfSummaries.{fieldless_is, of_fields}
use Rattle.stream_out.proofs.read_records.summary_in.Goals as goal

pub returns-in_default : goal.returns-in_default
returns-in_default c =
    fieldless_is c.args.v.now (ap fields_in (sym c.in_ok-value.ensures) ∙ sym c.into_fields.ensures ∙ c.in_default.is)

pub returns : goal.returns
returns c =
    of_fields c.args.v.now c.in-Some.fields c.in_ok-summary.summary
    (ap fields_in (sym c.in_ok-value.ensures) ∙ sym c.into_fields.ensures ∙ c.in-Some.is) c.in_ok-summary.ensures
