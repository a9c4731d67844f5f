use Rattle.std.proofs.Common.{arith, ◌-◌}
use Rattle.std.proofs.Math.Nat.{one-le-pow}
use Rattle.ion_values.proofs.time_ranges.is_fraction.Goals as goal

pub nonzero_rem-result : goal.nonzero_rem-result
nonzero_rem-result c = rw c.pow.ensures (one-le-pow (9 - c.args.digits) 10 (omega arith))
