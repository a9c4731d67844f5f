use Rattle.txn_core.proofs.Rooted.{written_is}
use Rattle.txn_core.proofs.roots.written_by.Goals as goal

pub returns : goal.returns
returns c = written_is c.args.sources.now c.args.change.now c.in_ok-roots.roots c.in_ok-roots.ensures
