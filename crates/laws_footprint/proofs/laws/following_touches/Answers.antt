use Rattle.laws_footprint.proofs.Following.{following_touches}
use Rattle.laws_footprint.proofs.laws.following_touches.Goals as goal

pub returns : goal.returns
returns c = following_touches
