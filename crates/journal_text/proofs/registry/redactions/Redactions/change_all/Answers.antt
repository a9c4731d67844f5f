use Rattle.std.proofs.Common.{◌+◌, List, arith}
use Rattle.ledger_model.specs.declared.block.Schema.{Schema}
use Rattle.journal_text.specs.Stands.{RedactionsStand}
use Rattle.journal_text.proofs.Taken.{at_start, ended_at, one_more_at, refused_at}
use Rattle.journal_text.proofs.registry.redactions.Redactions.change_all.Goals as goal

pub changes-init : goal.changes-init
changes-init c = λ h documents. at_start c.args.before.now c.args.schema.now c.args.self.now h

pub returns-then-not-branch : goal.returns-then-not-branch
returns-then-not-branch c = λ h documents.
    refused_at c.args.before.now c.args.schema.now c.changes.change-index c.change-item.result c.changes.self c.change.new.self c.in_ok-change.field-0 (omega arith)
    c.change-item.is (c.changes.invariant h documents)
    (λ (earlier : List Schema) (so_far : RedactionsStand c.args.before.now earlier c.changes.self). c.in_ok-change.ensures earlier so_far documents) c.if-not-branch.true

pub changes-preserved : goal.changes-preserved
changes-preserved c = λ h documents.
    one_more_at c.args.before.now c.args.schema.now c.changes.change-index (c.changes.change-index + 1) c.change-item.result c.changes.self c.change.new.self c.in_ok-change.field-0
    (omega arith) (omega arith) c.change-item.is (c.changes.invariant h documents)
    (λ (earlier : List Schema) (so_far : RedactionsStand c.args.before.now earlier c.changes.self). c.in_ok-change.ensures earlier so_far documents) c.if-not-branch.false

pub returns : goal.returns
returns c = λ h documents. ended_at c.args.before.now c.args.schema.now c.changes.change-index c.changes.self (omega arith) (c.changes.invariant h documents)
