use Rattle.std.proofs.Common.{◌∙◌, sym}
use Rattle.stream_out.proofs.OfRecords.{at_other, at_type}
use Rattle.stream_out.proofs.read_records.record_by.Goals as goal

pub returns-then-eq : goal.returns-then-eq
returns-then-eq c =
    at_type c.args.kind.now c.args.payload.now c.in_ok-summary.summary (sym c.eq.ensures ∙ c.if-eq.true) c.in_ok-summary.ensures

pub returns : goal.returns
returns c = at_other c.args.kind.now c.args.payload.now c.in_ok-other.other (sym c.eq.ensures ∙ c.if-eq.false) c.in_ok-other.ensures
