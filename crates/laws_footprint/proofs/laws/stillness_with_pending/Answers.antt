use Rattle.laws_footprint.proofs.Still.{stillness_with_pending}
use Rattle.laws_footprint.proofs.laws.stillness_with_pending.Goals as goal

pub returns : goal.returns
returns c = stillness_with_pending
