use Rattle.std.proofs.Common.{sym, ◌∙◌}
use Rattle.txn_core.proofs.Inserted.{insert_there}
use Rattle.txn_core.proofs.transaction.Txn.insert.Goals as goal

pub returns : goal.returns
returns c =
    insert_there c.args.self.now c.args.params.now c.args.name.now c.args.value.now c.in_ok-table.table c.new.result c.in_ok-found.found c.insert_found.result
    (sym c.in_ok-cause.ensures ∙ c.in_default.is) c.in_ok-table.ensures c.new.ensures c.in_ok-found.ensures c.insert_found.ensures
