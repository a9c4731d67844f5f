use Rattle.laws_history.proofs.Made.{blocks_are_told}
use Rattle.laws_history.proofs.blocks_are_told.Goals as goal

pub returns : goal.returns
returns c = blocks_are_told
