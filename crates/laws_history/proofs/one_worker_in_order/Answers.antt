use Rattle.laws_history.proofs.InOrder.{one_worker_in_order}
use Rattle.laws_history.proofs.one_worker_in_order.Goals as goal

pub returns : goal.returns
returns c = one_worker_in_order
