use Rattle.std.proofs.Common.{rules, ◌≡◌, ◌++◌, ◌∷◌, [], Result, Err, IfErr, subst, sym}
use Rattle.ledger_model.specs.declared.block.Block.{Block}
use Rattle.journal_text.specs.declared.journal.JournalFault.{JournalFault}
use Rattle.journal_text.specs.Reading.{IsRefused}
use Rattle.journal_text.proofs.journal.next_block.Goals as goal

pub returns-in_err-block-clause-fault : goal.returns-in_err-block-clause-fault
returns-in_err-block-clause-fault c =
    let line = c.args.text.now ++ 10 ∷ [] in
    let is : c.from_residual-in_err-block.result ≡ Err c.in_err-block.field-0.0 = search rules in
    subst (λ (r : Result Block JournalFault). IfErr r (λ fault. IsRefused c.args.before.now line fault)) (sym is)
    (c.in_err-block.ensures.fault line c.in_ok-found.ensures)

pub returns-clause-line : goal.returns-clause-line
returns-clause-line c = c.in_ok-block.ensures.line (c.args.text.now ++ 10 ∷ []) c.in_ok-found.ensures
