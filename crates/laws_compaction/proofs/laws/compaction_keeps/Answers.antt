use Rattle.laws_compaction.proofs.Compacted.{compaction_keeps}
use Rattle.laws_compaction.proofs.laws.compaction_keeps.Goals as goal

pub returns : goal.returns
returns c = compaction_keeps
