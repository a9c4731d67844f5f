use Rattle.std.proofs.Common.{◌≤◌, length, List, Some, sym, ap, ◌∙◌, arith}
use Rattle.std.specs.List.{find}
use Rattle.std.specs.Option.{option_copied}
use Rattle.ledger_model.specs.declared.block.Block.{Block}
use Rattle.ledger_model.specs.declared.outcome.Item.{Item}
use Rattle.occ_check.specs.Behind.{block_touches}
use Rattle.occ_check.proofs.Standing.{conflict_end, conflict_here, conflict_next}
use Rattle.occ_check.proofs.first_conflict.Goals as goal

-- the block touches the item first
pub returns-in-Some-2 : goal.returns-in-Some-2
returns-in-Some-2 c =
    let by = λ (bs : List Block). find (block_touches bs c.args.now.now c.in-Some.block.now) c.args.footprint.now in
    sym (conflict_here c.args.blocks.now.list c.later.number c.in-Some.block.now c.args.footprint.now c.args.now.now c.in_ok-copy_item.field-0
    c.requires.undamaged c.requires.stands (sym c.in-Some.ensures)
    (ap by (sym c.as_slice.ensures) ∙ sym c.in_ok-item.ensures ∙ ap option_copied c.in-Some-2.is ∙ ap (λ (i : Item). Some i) (sym c.in_ok-copy_item.ensures)))
    ∙ c.later.invariant

pub returns : goal.returns
returns c =
    let past : length c.args.blocks.now.list ≤ c.later.number = omega (arith, c.later-test.false, c.len-number-end.ensures) in
    sym (conflict_end c.args.blocks.now.list c.later.number c.args.footprint.now past) ∙ c.later.invariant

-- the block touches none of them
pub later-preserved : goal.later-preserved
later-preserved c =
    let by = λ (bs : List Block). find (block_touches bs c.args.now.now c.in-Some.block.now) c.args.footprint.now in
    sym (conflict_next c.args.blocks.now.list c.later.number c.in-Some.block.now c.args.footprint.now c.args.now.now
    c.requires.undamaged c.requires.stands (sym c.in-Some.ensures)
    (ap by (sym c.as_slice.ensures) ∙ sym c.in_ok-item.ensures ∙ ap option_copied c.in_default-2.is))
    ∙ c.later.invariant
