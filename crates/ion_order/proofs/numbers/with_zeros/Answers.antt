use Rattle.std.proofs.Common.{ap, arith, of_z}
use Rattle.std.specs.Int.{w128}
use Rattle.ion_order.proofs.Scaling.{too_many, power_fits}
use Rattle.ion_order.proofs.numbers.with_zeros.Goals as goal

pub returns-then-zeros-gt-MOST_ZEROS : goal.returns-then-zeros-gt-MOST_ZEROS
returns-then-zeros-gt-MOST_ZEROS c =
    too_many c.args.number c.args.zeros (λ e. c.if-number-eq0.false (ap (of_z w128) e)) c.if-zeros-gt-MOST_ZEROS.true

pub pow-requires : goal.pow-requires
pow-requires c = power_fits c.args.zeros (omega arith)
