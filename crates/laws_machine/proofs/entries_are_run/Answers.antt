use Rattle.laws_machine.proofs.Entries.{entries_are_run}
use Rattle.laws_machine.proofs.entries_are_run.Goals as goal

pub returns : goal.returns
returns c = entries_are_run
