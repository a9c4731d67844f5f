use Rattle.laws_history.proofs.Denials.{denials_are_told}
use Rattle.laws_history.proofs.denials_are_told.Goals as goal

pub returns : goal.returns
returns c = denials_are_told
