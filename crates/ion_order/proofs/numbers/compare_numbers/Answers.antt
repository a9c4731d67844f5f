use Rattle.std.proofs.Common.{◌∙◌, ap, arith, rules, FitsSigned, to_z-of_z}
use Rattle.std.proofs.lemmas.Int.{ints}
use Rattle.std.specs.Int.{w32, w128}
use Rattle.std.specs.Ordering.{ordering_reverse}
use Rattle.ion_order.proofs.Scaling.{compare_below, compare_above}
use Rattle.ion_order.proofs.numbers.compare_numbers.Goals as goal

pub returns-then-a-b : goal.returns-then-a-b
returns-then-a-b c =
    let f : FitsSigned w128 c.a.inside.coefficient = search rules in
    let g : FitsSigned w32 c.a.inside.exponent = search rules in
    let h : FitsSigned w128 c.b.inside.coefficient = search rules in
    let k : FitsSigned w32 c.b.inside.exponent = search rules in
    let told = rw (c.abs_diff-zeros.ensures, to_z-of_z f, to_z-of_z g, to_z-of_z h, to_z-of_z k) at c.compare_with_zeros.ensures in
    rw (← c.a.view_is, ← c.b.view_is) (c.reverse.ensures ∙ ap ordering_reverse told ∙ compare_below _ _ (omega (arith, ints)))

pub returns-else-a-b : goal.returns-else-a-b
returns-else-a-b c =
    let f : FitsSigned w128 c.a.inside.coefficient = search rules in
    let g : FitsSigned w32 c.a.inside.exponent = search rules in
    let h : FitsSigned w128 c.b.inside.coefficient = search rules in
    let k : FitsSigned w32 c.b.inside.exponent = search rules in
    let told = rw (c.abs_diff-zeros.ensures, to_z-of_z f, to_z-of_z g, to_z-of_z h, to_z-of_z k) at c.compare_with_zeros-else-a-b.ensures in
    rw (← c.a.view_is, ← c.b.view_is) (told ∙ compare_above _ _ (omega (arith, ints)))
