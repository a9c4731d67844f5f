use Rattle.std.proofs.Common.{◌∙◌, List, drop, subst, sym}
use Rattle.ledger_model.specs.declared.block.Block.{Block}
use Rattle.ledger_model.specs.HashesAsked.{AreAsked}
use Rattle.ledger_model.specs.Recovered.{IsJournal}
use Rattle.journal_text.specs.Feeding.{ReadSoFar, taken}
use Rattle.journal_text.specs.Reading.{StandsBehind}
use Rattle.journal_text.proofs.Fed.{is_journal}
use Rattle.journal_text.proofs.reader.JournalReader.end.Goals as goal

pub check_asked-requires : goal.check_asked-requires
check_asked-requires c =
    subst (λ (bs : List Block). StandsBehind bs c.in_ok-registry.registry) (c.as_slice.ensures ∙ sym c.as_slice-2.ensures) c.in_ok-registry.ensures

pub returns-clause-journal : goal.returns-clause-journal
returns-clause-journal c =
    let blocks = c.self.inside.blocks.list in
    let size = c.self.inside.size in
    let asked : AreAsked blocks = subst (λ (bs : List Block). AreAsked bs) c.as_slice-2.ensures c.in_ok-check_asked.ensures.asked in
    subst (λ (r : ReadSoFar). IsJournal (taken r) blocks (drop size (taken r))) c.self.view_is
    (is_journal blocks c.self.inside.line.items size c.self.invariant.undamaged asked c.self.invariant.torn c.self.invariant.long)
