use Rattle.std.proofs.Common.{rules, ◌≡◌, ◌∙◌, ◌++◌, ◌∷◌, [], ℕ, List, None, Result, Err, IfErr, ap, sym, subst}
use Rattle.std.proofs.lemmas.Result.{IfOk-at_ok}
use Rattle.ledger_model.specs.declared.block.Block.{Block}
use Rattle.ledger_model.specs.Damages.{damage_behind}
use Rattle.journal_text.specs.declared.journal.JournalFault.{JournalFault}
use Rattle.journal_text.specs.declared.registry.Registry.{Registry}
use Rattle.journal_text.specs.Lines.{IsLineRead}
use Rattle.journal_text.specs.Reading.{IsRefused, StandsBehind}
use Rattle.journal_text.proofs.reader.take_found.Goals as goal

pub checked_block-requires-clause-stands : goal.checked_block-requires-clause-stands
checked_block-requires-clause-stands c =
    subst (λ (bs : List Block). StandsBehind bs c.in_ok-registry.registry) (c.as_slice.ensures ∙ sym c.as_slice-2.ensures) c.in_ok-registry.ensures

pub returns-clause-block : goal.returns-clause-block
returns-clause-block c = λ line read.
    let was = c.make_room.ensures.list in
    record {
      block = c.in_ok-block.block;
      more = IfOk-at_ok _ c.unwrap.ensures c.push.ensures.pushed ∙ ap (λ (bs : List Block). bs ++ c.in_ok-block.block ∷ []) was;
      line = c.in_ok-block.ensures.line line read;
      undamaged = subst (λ (bs : List Block). damage_behind bs c.in_ok-block.block ≡ None) (c.as_slice-2.ensures ∙ was) c.in_ok-block.ensures.undamaged;
    }

pub returns-clause-stands : goal.returns-clause-stands
returns-clause-stands c =
    let more = IfOk-at_ok _ c.unwrap.ensures c.push.ensures.pushed in
    let same = ap (λ (bs : List Block). bs ++ c.in_ok-block.block ∷ []) c.as_slice-2.ensures in
    subst (λ (bs : List Block). StandsBehind bs c.checked_block.new.registry) (same ∙ sym more) c.in_ok-block.ensures.stands

pub returns-in_err-block-clause-fault : goal.returns-in_err-block-clause-fault
returns-in_err-block-clause-fault c =
    let fault = c.in_err-block.field-0.0 in
    let is : c.from_residual-in_err-block.result ≡ Err fault = search rules in
    subst (λ (r : Result Registry JournalFault). IfErr r (λ fault. (line : List ℕ) → IsLineRead line c.args.found
    → IsRefused c.args.blocks.now.list line fault)) (sym is)
    (λ line read. subst (λ (bs : List Block). IsRefused bs line fault) (c.as_slice-2.ensures ∙ c.make_room.ensures.list) (c.in_err-block.ensures.fault line read))
