use Rattle.std.proofs.Common.{◌≤◌, length, sym, ◌∙◌, ap, arith}
use Rattle.std.proofs.lemmas.List.{take_all}
use Rattle.ledger_model.specs.declared.outcome.Item.TheVariants as item
use Rattle.txn_core.proofs.Planned.{key_next}
use Rattle.txn_core.proofs.candidates.keys_in.Goals as goal

pub items-preserved : goal.items-preserved
items-preserved c =
    key_next c.args.table c.args.field.now c.args.items.now c.items.item-index c.item-item.result c.in_ok-key.key c.items.keys c.push.new.self
    c.items-test.true c.item-item.is (c.in-Some.ensures ∙ ap (item.IndexValue c.args.table c.args.field.now) (sym c.in_ok-key.ensures))
    c.in_ok-push.ensures.ok c.items.invariant

pub returns : goal.returns
returns c =
    let past : length c.args.items.now ≤ c.items.item-index = omega (arith, c.items-test.false) in
    sym (take_all c.items.item-index c.args.items.now past) ∙ c.items.invariant
