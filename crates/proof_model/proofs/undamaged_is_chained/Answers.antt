use Rattle.proof_model.proofs.Chains.{undamaged-chained}
use Rattle.proof_model.proofs.undamaged_is_chained.Goals as goal

pub returns : goal.returns
returns c = undamaged-chained
