use Rattle.pad_tree.proofs.Paired.{level_by_level}
use Rattle.pad_tree.proofs.root_level_by_level.Goals as goal

pub returns : goal.returns
returns c = level_by_level
