use Rattle.std.proofs.Common.{rules, FitsSigned, to_z-of_z}
use Rattle.std.specs.Int.{w32, w128}
use Rattle.ion_order.specs.Numbers.{brought}
use Rattle.ion_order.proofs.Ranges.{is_fitting}
use Rattle.ion_order.proofs.numbers.brought_to.Goals as goal

pub returns : goal.returns
unfolding brought
returns c =
    let f : FitsSigned w128 c.number.inside.coefficient = search rules in
    let g : FitsSigned w32 c.number.inside.exponent = search rules in
    let told = rw (c.abs_diff.ensures, to_z-of_z f, to_z-of_z g, to_z-of_z c.ranges.exponent) at c.with_zeros.ensures in
    rw (← c.number.view_is) (is_fitting _ _ told)
