use Rattle.std.proofs.Common.{List, arith, subst}
use Rattle.ledger_model.specs.declared.block.Schema.{Schema}
use Rattle.redact_tool.specs.Redacting.{Takes}
use Rattle.redact_tool.proofs.Sets.{blocks_all, blocks_more}
use Rattle.redact_tool.proofs.redactions.Redactions.of.Goals as goal

pub each-preserved : goal.each-preserved
each-preserved c =
    blocks_more c.args.blocks.now c.each.block-index c.block-item.result c.each.redactions c.take.new.self
    (omega arith) c.block-item.is
    c.each.invariant (subst
    (λ (cs : List Schema). Takes c.each.redactions cs c.take.new.self) c.as_slice.ensures c.in_ok-take.ensures)

pub returns : goal.returns
returns c = blocks_all c.args.blocks.now c.each.block-index c.each.redactions (omega arith) c.each.invariant
