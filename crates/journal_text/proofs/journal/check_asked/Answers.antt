use Rattle.std.proofs.Common.{◌∙◌, sym}
use Rattle.journal_text.proofs.Asked.{told_behind, unasked_bytes}
use Rattle.journal_text.proofs.journal.check_asked.Goals as goal

pub returns-in-None-clause-asked : goal.returns-in-None-clause-asked
returns-in-None-clause-asked c = sym (told_behind c.args.blocks.now c.args.registry.now c.unasked.result c.requires c.unasked.ensures) ∙ c.in-None.is

pub returns-in-Some-clause-fault : goal.returns-in-Some-clause-fault
returns-in-Some-clause-fault c = λ rest undamaged torn.
    unasked_bytes c.args.blocks.now rest c.in-Some.sequence undamaged torn
    (sym (told_behind c.args.blocks.now c.args.registry.now c.unasked.result c.requires c.unasked.ensures) ∙ c.in-Some.is)
