use Rattle.std.proofs.Common.{◌∙◌, ◌++◌, ◌∷◌, [], ℕ, List, subst, arith}
use Rattle.journal_text.specs.Feeding.{ReadSoFar, taken}
use Rattle.journal_text.specs.Reading.{IsLineFault, IsRefused}
use Rattle.journal_text.proofs.Fed.{fault_fed, reads_more}
use Rattle.journal_text.proofs.reader.JournalReader.end_line.Goals as goal

pub invariant_of-self-in-Ok : goal.invariant_of-self-in-Ok
invariant_of-self-in-Ok c =
    let whole = c.deref.ensures.value ∙ c.in_ok-extend.ensures.put in
    let long = c.in_ok-size.ensures in
    let begun = c.len-begun.ensures in
    reads_more c.self.inside.blocks.list c.take_line.new.blocks.list c.self.inside.line.items c.args.text.now c.deref.result.now c.clear.new.self.items
    c.self.inside.registry c.in-Ok.registry c.self.inside.size c.in_ok-size.size c.self.invariant whole c.in-Ok.ensures.block c.in-Ok.ensures.stands
    (omega (arith, long, begun)) c.clear.ensures.items

pub returns-in-Err-clause-fault : goal.returns-in-Err-clause-fault
returns-in-Err-clause-fault c = λ rest.
    let whole = c.deref.ensures.value ∙ c.in_ok-extend.ensures.put in
    let refused = subst (λ (xs : List ℕ). IsRefused c.self.inside.blocks.list (xs ++ 10 ∷ []) c.in-Err.fault) whole c.in-Err.ensures.fault in
    subst (λ (r : ReadSoFar). IsLineFault (taken r ++ ((c.args.text.now ++ 10 ∷ []) ++ rest)) c.in-Err.fault) c.self.view_is
    (fault_fed c.self.inside.blocks.list c.self.inside.line.items c.args.text.now rest c.in-Err.fault c.self.invariant.undamaged c.self.invariant.torn
    c.requires.one_line refused)
