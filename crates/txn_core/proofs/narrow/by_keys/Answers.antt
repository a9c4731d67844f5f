use Rattle.txn_core.proofs.Narrowing.{have_keys}
use Rattle.txn_core.proofs.narrow.by_keys.Goals as goal

pub returns : goal.returns
returns c = have_keys c.args.base.now c.args.table c.args.field.now c.args.keys.now c.in_ok-ids.ids c.in_ok-ids.ensures
