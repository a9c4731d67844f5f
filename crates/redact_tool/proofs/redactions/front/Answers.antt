use Rattle.std.proofs.Common.{arith}
use Rattle.redact_tool.proofs.Fronts.{front_end, front_next}
use Rattle.redact_tool.proofs.redactions.front.Goals as goal

pub each-preserved : goal.each-preserved
each-preserved c =
    front_next c.args.blocks.now c.each.at c.index-blocks-at.result
    (omega arith) c.index-blocks-at.is c.each.front c.further-front.result c.each.invariant
    c.further-front.ensures

pub returns : goal.returns
returns c = front_end c.args.blocks.now c.each.at c.each.front (omega arith) c.each.invariant
