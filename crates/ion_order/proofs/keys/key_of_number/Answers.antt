use Rattle.std.proofs.Common.{◌≡◌, ◌≢◌, ◌^◌, ◌+ℤ◌, ◌∙◌, ℤ, pos, FitsSigned, unsigned_abs, int_div, ap, sym, of_z, to_z, to_z-of_z, arith, rules}
use Rattle.std.proofs.lemmas.Int.{to_z_pos}
use Rattle.std.specs.Int.{w32, w128}
use Rattle.jiff_core.proofs.SignedLemmas.{signed_arith}
use Rattle.ion_values.specs.declared.value.Key.TheVariants as key
use Rattle.ion_order.specs.Key.{key_of_number, zeros_of}
use Rattle.ion_order.proofs.KeyOf.{key_of_zero, key_of_other}
use Rattle.ion_order.proofs.Scaling.{some}
use Rattle.ion_order.proofs.keys.key_of_number.Goals as goal

pub returns-then-number-eq0 : goal.returns-then-number-eq0
returns-then-number-eq0 c =
    let f : FitsSigned w128 c.number.inside.coefficient = search rules in
    let e = sym (to_z-of_z f) ∙ ap (to_z w128) c.if-number-eq0.true in
    rw (← c.number.view_is) (sym (key_of_zero _ e))

pub zeros_at_end-zeros-requires-clause-some : goal.zeros_at_end-zeros-requires-clause-some
zeros_at_end-zeros-requires-clause-some c =
    let f : FitsSigned w128 c.number.inside.coefficient = search rules in
    rw (c.unsigned_abs.ensures.value, to_z-of_z f) (some c.number.inside.coefficient (λ e. c.if-number-eq0.false (ap (of_z w128) e)))

pub returns : goal.returns
returns c =
    let f : FitsSigned w128 c.number.inside.coefficient = search rules in
    let g : FitsSigned w32 c.number.inside.exponent = search rules in
    let m : FitsSigned w128 c.without_zeros.result = search rules in
    let few = c.zeros_at_end-zeros.ensures.bound in
    let zeros = c.zeros_at_end-zeros.ensures.value ∙ ap zeros_of (c.unsigned_abs.ensures.value ∙ ap unsigned_abs (to_z-of_z f)) in
    let known = to_z_pos w32 c.zeros_at_end-zeros.result (omega arith) in
    let s : FitsSigned w32 (c.number.inside.exponent +ℤ pos c.zeros_at_end-zeros.result) = omega (arith, signed_arith) in
    rw (← c.number.view_is, to_z-of_z m, c.without_zeros.ensures, known, to_z-of_z f, to_z-of_z g, to_z-of_z s, zeros)
    (sym (key_of_other _ (λ e. c.if-number-eq0.false (ap (of_z w128) e))))
