use Rattle.laws_machine.proofs.Conflicts.{commit_is_made}
use Rattle.laws_machine.proofs.commit_is_made.Goals as goal

pub returns : goal.returns
returns c = commit_is_made
