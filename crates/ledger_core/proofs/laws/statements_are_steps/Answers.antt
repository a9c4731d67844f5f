use Rattle.ledger_core.proofs.Steps.{execute_is_step}
use Rattle.ledger_core.proofs.laws.statements_are_steps.Goals as goal

pub returns : goal.returns
returns c = execute_is_step
