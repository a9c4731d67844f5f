use Rattle.laws_wrong_runs.proofs.Places.{blocks_are_answered}
use Rattle.laws_wrong_runs.proofs.laws.blocks_are_answered.Goals as goal

pub returns : goal.returns
returns c = blocks_are_answered
