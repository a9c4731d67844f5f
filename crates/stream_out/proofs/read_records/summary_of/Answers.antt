use Rattle.std.proofs.Common.{Option, subst}
use Rattle.stream_out.specs.declared.read_records.Parts.{Parts}
use Rattle.stream_out.specs.ReadRecords.{IsSplit}
use Rattle.stream_out.proofs.OfSummaries.{joined_is, unsplit_is}
use Rattle.stream_out.proofs.read_records.summary_of.Goals as goal

pub returns-in_default : goal.returns-in_default
returns-in_default c =
    unsplit_is c.args.fields (subst (λ (o : Option Parts). IsSplit c.args.fields o) c.in_default.is c.in_ok-parts.ensures)

pub returns : goal.returns
returns c =
    joined_is c.args.fields c.in-Some.parts c.in_ok-summary.summary
    (subst (λ (o : Option Parts). IsSplit c.args.fields o) c.in-Some.is c.in_ok-parts.ensures) c.in_ok-summary.ensures
