use Rattle.laws_history.proofs.Steps.{commits_end_attempts}
use Rattle.laws_history.proofs.commits_end_attempts.Goals as goal

pub returns : goal.returns
returns c = commits_end_attempts
