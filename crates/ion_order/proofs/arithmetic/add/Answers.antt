use Rattle.std.proofs.Common.{rules, arith}
use Rattle.std.proofs.lemmas.Grind.{common_steps}
use Rattle.ion_order.proofs.Ranges.{not_held}
use Rattle.ion_order.proofs.arithmetic.add.Goals as goal

pub returns-in_err-sum : goal.returns-in_err-sum
returns-in_err-sum c = search (rules, not_held)
