use Rattle.proof_model.proofs.Accepted.{accepted}
use Rattle.proof_model.proofs.proofs_verify.Goals as goal

pub returns : goal.returns
returns c = accepted
