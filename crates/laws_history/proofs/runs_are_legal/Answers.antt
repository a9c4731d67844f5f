use Rattle.laws_history.proofs.Serial.{runs_are_legal}
use Rattle.laws_history.proofs.runs_are_legal.Goals as goal

pub returns : goal.returns
returns c = runs_are_legal
