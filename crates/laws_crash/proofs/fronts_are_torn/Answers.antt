use Rattle.laws_crash.proofs.Lines.{fronts_are_torn}
use Rattle.laws_crash.proofs.fronts_are_torn.Goals as goal

pub returns : goal.returns
returns c = fronts_are_torn c.written_on_one_line.ensures
