use Rattle.laws_workload.proofs.First.{first_is_over}
use Rattle.laws_workload.proofs.laws.first_is_over.Goals as goal

pub returns : goal.returns
returns c = first_is_over
