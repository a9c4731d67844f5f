use Rattle.laws_footprint.proofs.Owning.{stillness_of_own}
use Rattle.laws_footprint.proofs.laws.stillness_of_own.Goals as goal

pub returns : goal.returns
returns c = stillness_of_own
