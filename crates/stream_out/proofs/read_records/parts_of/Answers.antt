use Rattle.std.proofs.Common.{◌∙◌, sym}
use Rattle.stream_out.proofs.OfSummaries.{empty_split, none_listed}
use Rattle.stream_out.proofs.read_records.parts_of.Goals as goal

pub returns-in_default : goal.returns-in_default
returns-in_default c = empty_split c.args.fields c.in_default.ensures.0

pub returns-in_default-2 : goal.returns-in_default-2
returns-in_default-2 c =
    none_listed c.args.fields c.pop.new.self c.in-Some.last c.in-Some.ensures (sym c.in_ok-listed.ensures ∙ c.in_default-2.is)

pub returns : goal.returns
returns c = (c.in-Some.last, c.in-Some.ensures, sym c.in_ok-listed.ensures ∙ c.in-Some-2.is)
