use Rattle.laws_history.proofs.Tried.{tried_fit}
use Rattle.laws_history.proofs.tried_fit.Goals as goal

pub returns : goal.returns
returns c = tried_fit
