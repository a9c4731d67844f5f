use Rattle.std.proofs.Common.{◌≤◌, length, sym, ◌∙◌, arith}
use Rattle.std.proofs.lemmas.List.{take_all}
use Rattle.txn_core.proofs.Planned.{document_next, exact_documents, exact_table}
use Rattle.txn_core.proofs.candidates.plan_documents.Goals as goal

pub returns-then-is_table : goal.returns-then-is_table
returns-then-is_table c = λ base.
    exact_table c.args.of.kind.now c.args.of.table c.args.items.now c.items.item-index c.item-item.result c.items-test.true c.item-item.is
    (c.is_table.ensures c.if-is_table.true)

pub items-preserved : goal.items-preserved
items-preserved c =
    document_next c.args.of.table c.args.items.now c.items.item-index c.item-item.result c.in-Some.id c.items.ids c.push.new.self c.items-test.true
    c.item-item.is c.in-Some.ensures c.in_ok-push.ensures.ok c.items.invariant

pub returns : goal.returns
returns c = λ base.
    let past : length c.args.items.now ≤ c.items.item-index = omega (arith, c.items-test.false) in
    exact_documents c.args.of.kind.now c.args.of.table c.args.items.now c.items.ids
    (sym (take_all c.items.item-index c.args.items.now past) ∙ c.items.invariant)
