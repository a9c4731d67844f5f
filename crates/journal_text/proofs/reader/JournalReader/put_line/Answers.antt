use Rattle.std.proofs.Common.{◌≡◌, ◌∙◌, ◌++◌, ◌∷◌, [], ap, arith, subst}
use Rattle.ledger_model.specs.Journal.{journal_bytes}
use Rattle.journal_text.specs.Feeding.{ReadSoFar, taken}
use Rattle.journal_text.specs.Reading.{IsLineFault}
use Rattle.journal_text.proofs.Fed.{fault_fed}
use Rattle.journal_text.proofs.ReadyLines.{ready_reads, ready_refused, ready_taken}
use Rattle.journal_text.proofs.reader.JournalReader.put_line.Goals as goal

pub invariant_of-self : goal.invariant_of-self
invariant_of-self c =
    let none = ap (λ (r : ReadSoFar). r.line) c.self.view_is ∙ c.requires.begins in
    let long = c.in_ok-size.ensures in
    ready_reads c.self.inside.blocks.list c.take_found.new.blocks.list c.self.inside.line.items c.args.text.now c.self.inside.registry c.in-Ok.registry
    c.self.inside.size c.in_ok-size.size c.self.invariant none (c.in-Ok.ensures.block (c.args.text.now ++ 10 ∷ []) c.requires.read) c.in-Ok.ensures.stands
    (omega (arith, long))

pub returns-in-Ok-clause-taken : goal.returns-in-Ok-clause-taken
returns-in-Ok-clause-taken c =
    let none = ap (λ (r : ReadSoFar). r.line) c.self.view_is ∙ c.requires.begins in
    let after = c.take_found.new.blocks.list in
    let begun = c.self.inside.line.items in
    subst (λ (r : ReadSoFar). journal_bytes after ++ begun ≡ taken r ++ (c.args.text.now ++ 10 ∷ [])) c.self.view_is
    (ready_taken c.self.inside.blocks.list after begun c.args.text.now none (c.in-Ok.ensures.block (c.args.text.now ++ 10 ∷ []) c.requires.read))

pub returns-in-Err-clause-fault : goal.returns-in-Err-clause-fault
returns-in-Err-clause-fault c = λ rest.
    let none = ap (λ (r : ReadSoFar). r.line) c.self.view_is ∙ c.requires.begins in
    let blocks = c.self.inside.blocks.list in
    let begun = c.self.inside.line.items in
    let text = c.args.text.now in
    let refused = ready_refused blocks begun text c.in-Err.fault none (c.in-Err.ensures.fault (text ++ 10 ∷ []) c.requires.read) in
    subst (λ (r : ReadSoFar). IsLineFault (taken r ++ ((text ++ 10 ∷ []) ++ rest)) c.in-Err.fault) c.self.view_is
    (fault_fed blocks begun text rest c.in-Err.fault c.self.invariant.undamaged c.self.invariant.torn c.requires.one_line refused)
