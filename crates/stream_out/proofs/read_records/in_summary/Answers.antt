use Rattle.std.proofs.Common.{Option, Some, None, subst}
use Rattle.stream_out.specs.declared.record.Summary.{Summary}
use Rattle.stream_out.specs.ReadRecords.{IsSummaryAs}
use Rattle.stream_out.proofs.OfRecords.{typed_summary}
use Rattle.stream_out.proofs.read_records.in_summary.Goals as goal

pub returns-in-Some : goal.returns-in-Some
returns-in-Some c =
    typed_summary c.args.payload.now (Some c.in-Some.summary)
    (subst (λ (o : Option Summary). IsSummaryAs c.args.payload.now o) c.in-Some.is c.in_ok-found.ensures)

pub returns-in-None : goal.returns-in-None
returns-in-None c =
    typed_summary c.args.payload.now None
    (subst (λ (o : Option Summary). IsSummaryAs c.args.payload.now o) c.in-None.is c.in_ok-found.ensures)
