use Rattle.std.proofs.Common.{arith}
use Rattle.redact_tool.proofs.Sets.{taken_all, taken_more, taken_none}
use Rattle.redact_tool.proofs.redactions.Redactions.take.Goals as goal

pub changes-init : goal.changes-init
changes-init c = taken_none c.args.self.now

pub changes-preserved : goal.changes-preserved
changes-preserved c =
    taken_more c.args.schema.now c.changes.change-index c.change-item.result c.args.self.now c.changes.self
    c.take_one.new.self (omega arith)
    c.change-item.is c.changes.invariant c.in_ok-take_one.ensures

pub returns : goal.returns
returns c = taken_all c.args.schema.now c.changes.change-index c.args.self.now c.changes.self
    (omega arith) c.changes.invariant
