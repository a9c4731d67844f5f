use Rattle.laws_crash.proofs.Images.{unmarked_recovers}
use Rattle.laws_crash.proofs.unmarked_recovers.Goals as goal

pub returns : goal.returns
returns c = unmarked_recovers
