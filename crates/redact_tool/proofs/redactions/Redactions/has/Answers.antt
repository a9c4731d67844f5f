use Rattle.std.proofs.Common.{◌∙◌}
use Rattle.redact_tool.proofs.redactions.Redactions.has.Goals as goal

pub returns : goal.returns
returns c = λ blocks h. c.contains.ensures ∙ h c.args.revision.now.address c.args.table c.args.revision.now.metadata.id
