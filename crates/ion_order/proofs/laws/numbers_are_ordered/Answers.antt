use Rattle.ion_order.proofs.ByValue.{numbers_total}
use Rattle.ion_order.proofs.laws.numbers_are_ordered.Goals as goal

pub returns : goal.returns
returns c = numbers_total
