use Rattle.txn_core.proofs.Selects.{seen_rows}
use Rattle.txn_core.proofs.transaction.Txn.rows_now.Goals as goal

pub returns : goal.returns
returns c =
    seen_rows c.args.self.now c.args.params.now c.args.over.from.now c.args.over.given.items c.in_ok-rows.rows _ c.requires c.in_ok-rows.ensures
    c.in_ok-cause.ensures c.in_default.is
