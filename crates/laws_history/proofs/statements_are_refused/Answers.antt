use Rattle.laws_history.proofs.Refusals.{statements_are_refused}
use Rattle.laws_history.proofs.statements_are_refused.Goals as goal

pub returns : goal.returns
returns c = statements_are_refused
