use Rattle.std.proofs.Common.{◌∙◌}
use Rattle.ledger_model.specs.Follows.{is_redacted_in}
use Rattle.journal_text.proofs.Asked.{or_nothing}
use Rattle.journal_text.proofs.registry.redactions.Redactions.has.Goals as goal

pub returns : goal.returns
returns c = λ blocks h.
    c.contains.ensures ∙ h c.args.revision.now.address c.args.table c.args.revision.now.metadata.id
    ∙ or_nothing (is_redacted_in blocks (record { table = c.args.table; revision = c.args.revision.now }))
