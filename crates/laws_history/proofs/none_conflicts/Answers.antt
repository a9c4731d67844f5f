use Rattle.laws_history.proofs.NoConflicts.{none_conflicts}
use Rattle.laws_history.proofs.none_conflicts.Goals as goal

pub returns : goal.returns
returns c = none_conflicts
