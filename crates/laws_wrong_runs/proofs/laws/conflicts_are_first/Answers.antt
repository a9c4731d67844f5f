use Rattle.laws_wrong_runs.proofs.Places.{conflicts_are_first}
use Rattle.laws_wrong_runs.proofs.laws.conflicts_are_first.Goals as goal

pub returns : goal.returns
returns c = conflicts_are_first
