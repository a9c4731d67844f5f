use Rattle.std.proofs.Common.{◌∙◌, sym}
use Rattle.stream_out.proofs.Front.{front_is, no_fields}
use Rattle.stream_out.proofs.values.front_of.Goals as goal

pub returns-in_default : goal.returns-in_default
returns-in_default c = λ fields e. no_fields c.args.value fields _ e (sym c.into_fields.ensures ∙ c.in_default.is)

pub returns : goal.returns
returns c = λ fields e.
    c.first_eight.ensures ∙ front_is c.args.value fields c.in-Some.fields e (sym c.into_fields.ensures ∙ c.in-Some.is)
