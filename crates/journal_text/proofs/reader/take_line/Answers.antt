use Rattle.std.proofs.Common.{rules, ◌≡◌, ◌++◌, ◌∷◌, [], Result, Err, IfErr, subst, sym}
use Rattle.journal_text.specs.declared.journal.JournalFault.{JournalFault}
use Rattle.journal_text.specs.declared.registry.Registry.{Registry}
use Rattle.journal_text.specs.Reading.{IsRefused}
use Rattle.journal_text.proofs.reader.take_line.Goals as goal

pub returns-in_err-registry-clause-fault : goal.returns-in_err-registry-clause-fault
returns-in_err-registry-clause-fault c =
    let line = c.args.text.now ++ 10 ∷ [] in
    let is : c.from_residual-in_err-registry.result ≡ Err c.in_err-registry.field-0.0 = search rules in
    subst (λ (r : Result Registry JournalFault). IfErr r (λ fault. IsRefused c.args.blocks.now.list line fault)) (sym is)
    (c.in_err-registry.ensures.fault line c.in_ok-found.ensures)
