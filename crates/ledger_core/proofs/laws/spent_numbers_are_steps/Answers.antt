use Rattle.ledger_core.proofs.Steps.{spent_is_step}
use Rattle.ledger_core.proofs.laws.spent_numbers_are_steps.Goals as goal

pub returns : goal.returns
returns c = spent_is_step
