use Rattle.ledger_core.proofs.Steps.{begin_is_step}
use Rattle.ledger_core.proofs.laws.begins_are_steps.Goals as goal

pub returns : goal.returns
returns c = begin_is_step
