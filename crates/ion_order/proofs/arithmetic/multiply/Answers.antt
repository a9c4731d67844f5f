use Rattle.std.proofs.Common.{◌≡◌, ◌∙◌, arith, rules, ◌+ℤ◌, ◌*ℤ◌, FitsSigned, to_z-of_z}
use Rattle.std.specs.Int.{w32, w128}
use Rattle.jiff_core.proofs.SignedLemmas.{signed_arith}
use Rattle.ion_order.proofs.arithmetic.multiply.Goals as goal

pub returns : goal.returns
returns c =
    let f : FitsSigned w128 c.a.inside.coefficient = search rules in
    let g : FitsSigned w32 c.a.inside.exponent = search rules in
    let h : FitsSigned w128 c.b.inside.coefficient = search rules in
    let k : FitsSigned w32 c.b.inside.exponent = search rules in
    let m : FitsSigned w128 c.in_ok-product.product = search rules in
    let s : FitsSigned w32 (c.a.inside.exponent +ℤ c.b.inside.exponent) = omega (arith, signed_arith) in
    let told = rw (to_z-of_z m, to_z-of_z g, to_z-of_z k, to_z-of_z s) at c.in_range.ensures in
    let is = rw (to_z-of_z f, to_z-of_z h) at c.in_ok-product.ensures.1 in
    rw (← c.a.view_is, ← c.b.view_is) (rw is at told)
