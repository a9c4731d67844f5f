use Rattle.laws_workload.proofs.Joining.{workers_join}
use Rattle.laws_workload.proofs.laws.workers_join.Goals as goal

pub returns : goal.returns
returns c = workers_join
