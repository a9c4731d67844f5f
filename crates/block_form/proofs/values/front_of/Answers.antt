use Rattle.std.proofs.Common.{◌∙◌, sym}
use Rattle.block_form.proofs.Front.{front_is, has_fields}
use Rattle.block_form.proofs.values.front_of.Goals as goal

pub returns-in_default : goal.returns-in_default
returns-in_default c = λ h e. has_fields h c.args.head _ e (sym c.into_fields.ensures ∙ c.in_default.is)

pub returns : goal.returns
returns c = λ h e. c.first_three.ensures ∙ front_is h c.args.head c.in-Some.fields e (sym c.into_fields.ensures ∙ c.in-Some.is)
