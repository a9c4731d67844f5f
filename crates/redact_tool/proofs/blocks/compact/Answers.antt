use Rattle.std.proofs.Common.{◌∙◌, ◌+◌, List, [], drop, sym, ap, subst, arith}
use Rattle.ledger_model.specs.declared.block.Block.{Block}
use Rattle.ledger_model.specs.Compaction.{compacted}
use Rattle.ledger_model.specs.Damages.{Undamaged}
use Rattle.redact_tool.proofs.Parts.{block_more, blocks_end, fits_at, hides_at}
use Rattle.redact_tool.proofs.blocks.compact.Goals as goal

pub compacted_block-requires : goal.compacted_block-requires
compacted_block-requires c =
    fits_at c.as_slice-all.result.now [] c.each.at c.index-all-at.result
    (subst (λ (bs : List Block). Undamaged bs) (sym c.as_slice-all.ensures) c.requires.undamaged)
    (omega arith) c.index-all-at.is

pub each-preserved : goal.each-preserved
each-preserved c =
    let all = c.as_slice-all.result.now in
    let at = c.each.at in
    let b = c.index-all-at.result in
    let hides = hides_at all at b c.front-front.result (omega arith) c.index-all-at.is c.front-front.ensures in
    block_more all at b _ c.each.made.list _ (omega arith) c.index-all-at.is c.each.invariant
    (c.in_ok-compacted_block.ensures all
    (drop (at + 1) all) c.in_ok-redactions.ensures hides) c.in_ok-push.ensures.pushed

pub returns : goal.returns
returns c =
    blocks_end c.as_slice-all.result.now c.each.at c.each.made.list (omega arith) c.each.invariant
    ∙ ap (λ (bs : List Block). compacted bs) c.as_slice-all.ensures
