use Rattle.std.proofs.Common.{rules, arith}
use Rattle.std.proofs.lemmas.Grind.{common_steps}
use Rattle.ion_order.proofs.Ranges.{not_held}
use Rattle.ion_order.proofs.arithmetic.subtract.Goals as goal

pub returns-in_err-difference : goal.returns-in_err-difference
returns-in_err-difference c = search (rules, not_held)
