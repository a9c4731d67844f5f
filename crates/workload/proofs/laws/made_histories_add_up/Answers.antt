use Rattle.workload.proofs.Additions.{add-up}
use Rattle.workload.proofs.laws.made_histories_add_up.Goals as goal

pub returns : goal.returns
returns c = add-up
