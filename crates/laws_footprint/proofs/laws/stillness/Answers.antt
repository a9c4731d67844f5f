use Rattle.laws_footprint.proofs.Still.{stillness}
use Rattle.laws_footprint.proofs.laws.stillness.Goals as goal

pub returns : goal.returns
returns c = stillness
