use Rattle.laws_machine.proofs.OnBase.{execute_is_run}
use Rattle.laws_machine.proofs.execute_is_run.Goals as goal

pub returns : goal.returns
returns c = execute_is_run
