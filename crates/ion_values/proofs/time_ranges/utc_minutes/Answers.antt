use Rattle.std.proofs.Common.{arith}
use Rattle.jiff_core.proofs.SignedLemmas.{signed_arith}
use Rattle.ion_values.proofs.time_ranges.utc_minutes.Goals as goal

pub returns-clause-value : goal.returns-clause-value
returns-clause-value c = omega (arith, signed_arith)

pub returns-clause-bound : goal.returns-clause-bound
returns-clause-bound c = omega (arith, signed_arith)
