use Rattle.laws_crash.proofs.Images.{quiet_leaves_all}
use Rattle.laws_crash.proofs.nothing_pending_leaves_all.Goals as goal

pub returns : goal.returns
returns c = quiet_leaves_all
