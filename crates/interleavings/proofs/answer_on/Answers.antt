use Rattle.std.proofs.Common.{◌++◌, ap, sym, arith, ◌∙◌}
use Rattle.interleavings.proofs.Running.{all_done, none_done, one_done, stopped}
use Rattle.interleavings.proofs.answer_on.Goals as goal

pub events-init : goal.events-init
events-init c = none_done c.args.desk.now.tail c.args.values.now c.args.out.now c.args.desk.now.transactions.items c.requires.none

pub events-preserved : goal.events-preserved
events-preserved c =
    let before = c.events in
    let after = c.answer.new.self in
    one_done c.args.desk.now.tail c.args.values.now before.at c.args.out.now before.out c.push_str.new.self before.desk.tail after.tail
    before.desk.transactions.items after.transactions.items c.index-values-at.result c.in-Some.event c.in_ok-said-in-Some.said c.events-test.true
    c.index-values-at.is (sym c.in-Some.is ∙ c.in_ok-event.ensures)
    (c.in_ok-push_str-in-Some.ensures.ok ∙ ap (λ said. before.out ++ said) c.as_str.ensures) c.in_ok-said-in-Some.ensures.answers c.in_ok-said-in-Some.ensures.sound before.invariant

pub returns-in-None : goal.returns-in-None
returns-in-None c =
    let before = c.events in
    stopped c.args.desk.now.tail c.args.first c.args.values.now before.at c.args.out.now before.out c.put_bad_event.new.out before.desk.tail
    before.desk.transactions.items c.index-values-at.result c.events-test.true c.index-values-at.is (sym c.in-None.is ∙ c.in_ok-event.ensures)
    c.in_ok-put_bad_event-in-None.ensures before.invariant

pub returns : goal.returns
returns c =
    let before = c.events in
    all_done c.args.desk.now.tail c.args.first c.args.values.now before.at c.args.out.now before.out c.put_blocks.new.out before.desk.tail
    before.desk.transactions.items c.as_slice.result.now (omega arith) (c.as_slice.ensures ∙ c.blocks-2.ensures.blocks) c.in_ok-put_blocks.ensures before.invariant
