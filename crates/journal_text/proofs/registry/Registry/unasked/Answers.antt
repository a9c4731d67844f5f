use Rattle.journal_text.proofs.registry.Registry.unasked.Goals as goal

pub returns : goal.returns
returns c = λ strand h. c.first.ensures h.redactions
