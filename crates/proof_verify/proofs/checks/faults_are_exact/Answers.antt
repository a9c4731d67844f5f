use Rattle.proof_verify.proofs.Exact.{exact}
use Rattle.proof_verify.proofs.checks.faults_are_exact.Goals as goal

pub returns : goal.returns
returns c = exact
