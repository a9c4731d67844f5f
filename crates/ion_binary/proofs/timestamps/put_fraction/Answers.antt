use Rattle.std.proofs.Common.{arith, lit<}
use Rattle.std.proofs.Math.Nat.{one-le-pow}
use Rattle.ion_binary.proofs.timestamps.put_fraction.Goals as goal

pub nonzero_div-nanos : goal.nonzero_div-nanos
nonzero_div-nanos c =
    let some = one-le-pow c.saturating_sub.result 10 (lit< tt) in
    omega (arith, some)
