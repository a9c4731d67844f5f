use Rattle.laws_machine.proofs.Conflicts.{conflict_comes_exactly}
use Rattle.laws_machine.proofs.conflict_comes_exactly.Goals as goal

pub returns : goal.returns
returns c = conflict_comes_exactly
