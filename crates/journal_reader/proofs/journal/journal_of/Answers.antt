use Rattle.std.proofs.Common.{◌∙◌, List, ap, arith, length, subst, sym}
use Rattle.ledger_model.specs.declared.block.Block.{Block}
use Rattle.ledger_model.specs.Damages.{Undamaged}
use Rattle.ledger_model.specs.HashesAsked.{AreAsked}
use Rattle.ledger_model.specs.Journal.{journal_bytes}
use Rattle.journal_text.specs.Feeding.{taken}
use Rattle.journal_reader.proofs.Bounds.{undamaged_bound}
use Rattle.journal_reader.proofs.Lines.{lines-end}
use Rattle.journal_reader.proofs.Read.{is-read}
use Rattle.journal_reader.proofs.journal.journal_of.Goals as goal

pub of-requires : goal.of-requires
of-requires c = let bound = undamaged_bound _ c.in_ok-listed.ensures.journal.undamaged in omega (arith, bound)

pub invariant_of-result : goal.invariant_of-result
invariant_of-result c =
    let same = c.in_ok-chain.ensures in
    let journal = c.in_ok-listed.ensures.journal in
    record {
      undamaged = subst (λ (bs : List Block). Undamaged bs) (sym same) journal.undamaged;
      asked = subst (λ (bs : List Block). AreAsked bs) (sym same) journal.asked;
      long = lines-end (taken c.args.stored.reader) _ _ journal c.in_ok-listed.ensures.within ∙ ap (λ bs. length (journal_bytes bs)) (sym same);
    }

pub returns-clause-read : goal.returns-clause-read
returns-clause-read c =
    is-read (taken c.args.stored.reader) _ c.in_ok-chain.chain.list _ c.args.stored.size c.in_ok-listed.ensures.journal c.in_ok-listed.ensures.within
    c.requires.size c.in_ok-chain.ensures
