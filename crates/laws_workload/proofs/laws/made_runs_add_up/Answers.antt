use Rattle.laws_workload.proofs.Adding.{made_runs_add_up}
use Rattle.laws_workload.proofs.laws.made_runs_add_up.Goals as goal

pub returns : goal.returns
returns c = made_runs_add_up
