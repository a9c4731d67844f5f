use Rattle.ledger_core.proofs.Steps.{execute_keeps_open}
use Rattle.ledger_core.proofs.laws.statements_keep_open.Goals as goal

pub returns : goal.returns
returns c = execute_keeps_open
