use Rattle.laws_passes.proofs.Asking.{statements_keep_open}
use Rattle.laws_passes.proofs.laws.statements_keep_open.Goals as goal

pub returns : goal.returns
returns c = statements_keep_open
