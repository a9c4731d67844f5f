use Rattle.ledger_core.proofs.Steps.{commit_is_step}
use Rattle.ledger_core.proofs.laws.commits_are_steps.Goals as goal

pub returns : goal.returns
returns c = commit_is_step
