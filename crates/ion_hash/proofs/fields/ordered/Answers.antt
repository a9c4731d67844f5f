use Rattle.ion_hash.proofs.Order.{sorted-in_order}
use Rattle.ion_hash.proofs.fields.ordered.Goals as goal

pub returns : goal.returns
returns c = sorted-in_order c.args.hashes.items c.sort.new.self.items c.in_ok-sort.ensures.sorted c.sort.ensures.stable
