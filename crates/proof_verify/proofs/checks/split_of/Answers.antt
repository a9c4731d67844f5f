use Rattle.std.proofs.Common.{arith}
use Rattle.proof_verify.proofs.checks.split_of.Goals as goal

pub returns-clause-small : goal.returns-clause-small
returns-clause-small c = let low = c.height.ensures.least 32 (omega arith) in omega (arith, low)
