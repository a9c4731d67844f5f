use Rattle.std.proofs.Common.{◌≡◌, Err, rules, sym, ◌∙◌}
use Rattle.txn_core.specs.Effects.{effect_of}
use Rattle.txn_core.proofs.Schemas.{indexed_nowhere, indexed_refused, indexed_there}
use Rattle.txn_core.proofs.transaction.Txn.create_index.Goals as goal

pub returns-in-Some : goal.returns-in-Some
returns-in-Some c =
    indexed_refused c.args.self.now.base c.args.self.now.done c.args.name.now c.args.field.now c.in_ok-table.table _ c.in_ok-table.ensures
    (sym c.in_ok-cause.ensures ∙ c.in-Some.is)

pub returns : goal.returns
returns c =
    indexed_there c.args.self.now.base c.args.self.now.done c.args.name.now c.args.field.now c.in_ok-copy.field-0 c.in_ok-table.table (effect_of c.in_ok-schema_change.field-0)
    c.in_ok-table.ensures (sym c.in_ok-cause.ensures ∙ c.in_default.is) c.in_ok-copy.ensures c.in_ok-schema_change.ensures

pub returns-in_err-table : goal.returns-in_err-table
returns-in_err-table c =
    let is : c.from_residual.result ≡ Err c.in_err-table.field-0.0 = search rules in
    rw is (indexed_nowhere c.args.self.now.base c.args.self.now.done c.args.name.now c.args.field.now c.in_err-table.field-0.0 c.in_err-table.ensures)
