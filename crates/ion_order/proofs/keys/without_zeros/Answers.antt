use Rattle.std.proofs.Common.{◌≡◌, ◌<◌, ◌≤◌, ◌^◌, ◌<ℤ◌, ℤ, pos, FitsSigned, sym, subst, to_z-of_z, arith, rules, lit<}
use Rattle.std.proofs.lemmas.Int.{quot_is, quot_fits}
use Rattle.std.proofs.Math.Nat.{one-le-pow}
use Rattle.std.specs.Int.{w128}
use Rattle.jiff_core.proofs.SignedLemmas.{signed_arith}
use Rattle.ion_order.proofs.Scaling.{power_fits}
use Rattle.ion_order.proofs.keys.without_zeros.Goals as goal

pub pow-requires : goal.pow-requires
pow-requires c = power_fits c.args.zeros c.requires

pub nonzero_div-result : goal.nonzero_div-result
nonzero_div-result c =
    let least = one-le-pow c.args.zeros 10 (lit< tt) in
    let above : pos 0 <ℤ pos (10 ^ c.args.zeros) = omega (arith, signed_arith) in
    rw (c.pow.ensures, to_z-of_z c.ranges.number, to_z-of_z (power_fits c.args.zeros c.requires)) (least, quot_fits w128 c.args.number _ c.ranges.number above)

pub returns : goal.returns
returns c =
    let least = one-le-pow c.args.zeros 10 (lit< tt) in
    let above : pos 0 <ℤ pos (10 ^ c.args.zeros) = omega (arith, signed_arith) in
    rw c.pow.ensures (quot_is w128 c.args.number _ c.ranges.number (power_fits c.args.zeros c.requires) (quot_fits w128 c.args.number _ c.ranges.number above))
