use Rattle.std.proofs.Common.{◌≡◌, ◌∙◌, Err, List, ap, refl, rules}
use Rattle.ledger_model.specs.declared.block.Block.{Block}
use Rattle.ledger_core.specs.NextBlock.{next_block}
use Rattle.ledger_core.proofs.Appends.{kept_on, no_memory, nothing_appended, passed_on}
use Rattle.ledger_core.proofs.tail.Tail.append_next.Goals as goal

pub returns-in_err-made-clause-leaves : goal.returns-in_err-made-clause-leaves
returns-in_err-made-clause-leaves g c =
    let out : c.from_residual.result ≡ Err no_memory = search rules in
    nothing_appended g.S.JournalStore.told c.args.self.now c.args.self.now _ _ out refl

pub returns-in_err-append_block-clause-leaves : goal.returns-in_err-append_block-clause-leaves
returns-in_err-append_block-clause-leaves g c =
    let e = c.in_err-append_block.field-0.0 in
    let next = next_block c.args.txn c.args.self.now.standing.blocks c.args.time in
    let is : c.in_ok-made.made.block ≡ next =
    c.in_ok-made.ensures.block ∙ ap (λ (bs : List Block). next_block c.args.txn bs c.args.time) (c.as_slice.ensures ∙ c.blocks-2.ensures.blocks) in
    let out : c.from_residual-in_err-append_block.result ≡ Err e = search rules in
    passed_on g.S.JournalStore.told c.args.self.now c.append_block.new.self c.in_ok-made.made.block next is (Unit {0}) _ e out c.in_err-append_block.ensures

pub returns-clause-leaves : goal.returns-clause-leaves
returns-clause-leaves g c =
    let next = next_block c.args.txn c.args.self.now.standing.blocks c.args.time in
    let is : c.in_ok-made.made.block ≡ next =
    c.in_ok-made.ensures.block ∙ ap (λ (bs : List Block). next_block c.args.txn bs c.args.time) (c.as_slice.ensures ∙ c.blocks-2.ensures.blocks) in
    kept_on g.S.JournalStore.told c.args.self.now c.append_block.new.self c.in_ok-made.made.block next is tt _ c.in_ok-append_block.ensures
