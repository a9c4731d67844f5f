use Rattle.std.proofs.Common.{sym, ◌∙◌}
use Rattle.occ_check.specs.Behind.{block_touches}
use Rattle.occ_check.proofs.Standing.{found_here, found_later}
use Rattle.occ_check.proofs.first_touched.Goals as goal

pub returns-then-branch : goal.returns-then-branch
returns-then-branch c =
    sym (found_here (block_touches c.args.journal.blocks.now c.args.journal.now.now c.args.block.now) c.args.items.now c.items.item-index c.item-item.result c.items-test.true c.item-item.is
    (sym c.in_ok-block_touches.ensures ∙ c.if-branch.true))
    ∙ c.items.invariant

pub items-preserved : goal.items-preserved
items-preserved c =
    sym (found_later (block_touches c.args.journal.blocks.now c.args.journal.now.now c.args.block.now) c.args.items.now c.items.item-index c.item-item.result c.items-test.true c.item-item.is
    (sym c.in_ok-block_touches.ensures ∙ c.if-branch.false))
    ∙ c.items.invariant
