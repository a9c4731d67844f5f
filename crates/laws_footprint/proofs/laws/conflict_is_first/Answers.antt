use Rattle.laws_footprint.proofs.Conflicts.{conflict_is_first}
use Rattle.laws_footprint.proofs.laws.conflict_is_first.Goals as goal

pub returns : goal.returns
returns c = conflict_is_first
