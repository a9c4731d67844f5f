use Rattle.laws_history.proofs.Fitting.{runs_fit}
use Rattle.laws_history.proofs.runs_fit.Goals as goal

pub returns : goal.returns
returns c = runs_fit
