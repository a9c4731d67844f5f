use Rattle.std.proofs.Common.{◌∙◌, Option, refl, sym, subst}
use Rattle.block_form.specs.declared.checked.CheckedBlock.{CheckedBlock}
use Rattle.journal_text.specs.Lines.{IsLineRead}
use Rattle.journal_text.proofs.Growing.{fails}
use Rattle.journal_text.proofs.journal.checked_block.Goals as goal

pub damage_of-requires-clause-stands : goal.damage_of-requires-clause-stands
damage_of-requires-clause-stands c = c.requires.stands c.in-Some.checked.block

pub damage_of-requires-clause-hashes : goal.damage_of-requires-clause-hashes
damage_of-requires-clause-hashes c = (subst (λ (x : Option CheckedBlock). IsLineRead c.requires.read.0 x) c.in-Some.is c.requires.read.1).1

pub returns-in_default-clause-fault : goal.returns-in_default-clause-fault
returns-in_default-clause-fault c = λ line read. (refl, subst (λ (x : Option CheckedBlock). IsLineRead line x) c.in_default.is read)

pub returns-in-None-clause-line : goal.returns-in-None-clause-line
returns-in-None-clause-line c = λ line read. (subst (λ (x : Option CheckedBlock). IsLineRead line x) c.in-Some.is read).0

pub returns-in-Some-2-clause-fault : goal.returns-in-Some-2-clause-fault
returns-in-Some-2-clause-fault c = λ line read.
    let is = subst (λ (x : Option CheckedBlock). IsLineRead line x) c.in-Some.is read in
    (refl, fails c.args.before.now line c.in-Some-2.kind c.in-Some.checked.block is.0 (sym c.in_ok-damage_of.ensures.kind ∙ c.in-Some-2.is))
