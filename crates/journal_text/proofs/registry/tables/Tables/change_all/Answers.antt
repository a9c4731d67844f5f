use Rattle.std.proofs.Common.{◌+◌, arith}
use Rattle.journal_text.proofs.TableSteps.{at_start, ended_at, one_more_at, refused_at}
use Rattle.journal_text.proofs.registry.tables.Tables.change_all.Goals as goal

pub changes-init : goal.changes-init
changes-init c = λ tables indexes h ids. at_start tables indexes c.args.schema.now c.args.self.now h ids

pub returns-then-not-branch : goal.returns-then-not-branch
returns-then-not-branch c = λ tables indexes h ids.
    refused_at tables indexes c.args.schema.now c.changes.change-index c.change-item.result c.changes.self c.change.new.self c.in_ok-change.field-0 (omega arith)
    c.change-item.is (c.changes.invariant tables indexes h ids) c.in_ok-change.ensures c.if-not-branch.true

pub changes-preserved : goal.changes-preserved
changes-preserved c = λ tables indexes h ids.
    one_more_at tables indexes c.args.schema.now c.changes.change-index (c.changes.change-index + 1) c.change-item.result c.changes.self c.change.new.self c.in_ok-change.field-0
    (omega arith) (omega arith) c.change-item.is (c.changes.invariant tables indexes h ids) c.in_ok-change.ensures c.if-not-branch.false

pub returns : goal.returns
returns c = λ tables indexes h ids.
    ended_at tables indexes c.args.schema.now c.changes.change-index c.changes.self (omega arith) (c.changes.invariant tables indexes h ids)
