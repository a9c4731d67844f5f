use Rattle.std.proofs.Common.{◌≡◌, ◌∙◌, List, ap, subst, sym, true, false}
use Rattle.std.specs.Option.{IfSome}
use Rattle.ion_values.specs.declared.value.Key.{Key}
use Rattle.pql_model.specs.Tables.{is_committed}
use Rattle.txn_core.specs.Narrow.{HaveKeys}
use Rattle.txn_core.proofs.Planned.{committed_fits, found_keys, keys_fit}
use Rattle.txn_core.proofs.candidates.plan_keys.Goals as goal

pub returns-then-is_committed : goal.returns-then-is_committed
returns-then-is_committed c =
    let committed : true ≡ is_committed c.in-Table.name =
    sym c.if-is_committed.true ∙ c.is_committed.ensures ∙ ap is_committed c.as_str.ensures in
    committed_fits c.args.base.now c.args.of.kind.now c.args.of.table c.args.items.now c.in-Table.name c.args.field.now c.in-Some.keys
    c.in_ok-ids-in-Table.ids c.documents_or_all.result c.in-Table.is committed
    (found_keys c.args.of.table c.args.field.now c.args.items.now c.in_ok-keys.field-0 c.in-Some.keys c.in-Some.is c.in_ok-keys.ensures)
    (subst (λ (ks : List Key). IfSome c.in_ok-ids-in-Table.ids (HaveKeys c.args.base.now c.args.of.table c.args.field.now ks))
    c.as_slice.ensures c.in_ok-ids-in-Table.ensures)
    c.documents_or_all.ensures

pub returns-in_ok-field-in-Table : goal.returns-in_ok-field-in-Table
returns-in_ok-field-in-Table c =
    let user : false ≡ is_committed c.in-Table.name =
    sym c.if-is_committed.false ∙ c.is_committed.ensures ∙ ap is_committed c.as_str.ensures in
    keys_fit c.args.of.kind.now c.args.of.table c.args.items.now c.in-Table.name c.args.field.now c.in_ok-field-in-Table.field c.in-Some.keys
    c.in-Table.is user (found_keys c.args.of.table c.args.field.now c.args.items.now c.in_ok-keys.field-0 c.in-Some.keys c.in-Some.is c.in_ok-keys.ensures)
    c.in_ok-field-in-Table.ensures
