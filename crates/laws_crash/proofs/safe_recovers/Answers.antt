use Rattle.laws_crash.proofs.Images.{safe_recovers}
use Rattle.laws_crash.proofs.safe_recovers.Goals as goal

pub returns : goal.returns
returns c = safe_recovers c.written_on_one_line.ensures
