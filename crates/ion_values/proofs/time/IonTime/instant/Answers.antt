use Rattle.std.proofs.Common.{arith}
use Rattle.jiff_core.proofs.SignedLemmas.{signed_arith}
use Rattle.ion_values.proofs.time.IonTime.instant.Goals as goal

pub overflow_add-result : goal.overflow_add-result
overflow_add-result c = omega (arith, signed_arith)

pub returns : goal.returns
returns c = rw (← c.self.view_is) (omega (arith, signed_arith))
