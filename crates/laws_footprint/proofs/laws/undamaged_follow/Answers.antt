use Rattle.laws_footprint.proofs.Journals.{undamaged_follow}
use Rattle.laws_footprint.proofs.laws.undamaged_follow.Goals as goal

pub returns : goal.returns
returns c = undamaged_follow
