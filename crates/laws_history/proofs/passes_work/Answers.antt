use Rattle.laws_history.proofs.Passes.{passes_work}
use Rattle.laws_history.proofs.passes_work.Goals as goal

pub returns : goal.returns
returns c = passes_work
