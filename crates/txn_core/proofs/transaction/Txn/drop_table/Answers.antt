use Rattle.std.proofs.Common.{◌≡◌, Err, rules}
use Rattle.txn_core.specs.Effects.{effect_of}
use Rattle.txn_core.proofs.Schemas.{dropped_nowhere, dropped_there}
use Rattle.txn_core.proofs.transaction.Txn.drop_table.Goals as goal

pub returns : goal.returns
returns c =
    dropped_there c.args.self.now.base c.args.self.now.done c.args.name.now c.in_ok-copy.field-0 c.in_ok-table.table (effect_of c.in_ok-schema_change.field-0)
    c.in_ok-table.ensures c.in_ok-copy.ensures c.in_ok-schema_change.ensures

pub returns-in_err-table : goal.returns-in_err-table
returns-in_err-table c =
    let is : c.from_residual.result ≡ Err c.in_err-table.field-0.0 = search rules in
    rw is (dropped_nowhere c.args.self.now.base c.args.self.now.done c.args.name.now c.in_err-table.field-0.0 c.in_err-table.ensures)
