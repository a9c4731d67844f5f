use Rattle.std.proofs.Common.{◌≡◌, ℤ, sym, subst, w64, to_z, of_z, FitsSigned, true}
use Rattle.std.specs.Int.{w128}
use Rattle.ion_values.specs.Time.{is_time}
use Rattle.cli_args.specs.Times.{milliseconds_of}
use Rattle.cli_args.proofs.Milliseconds.{divided, milliseconds_fit, in_128, in_64}
use Rattle.cli_args.proofs.times.milliseconds_of.Goals as goal

pub overflow_cast-result : goal.overflow_cast-result
overflow_cast-result c =
    let t = c.args.time.now in
    let held = c.parts-in_range.ensures in
    let holds : is_time t ≡ true = subst (λ p. is_time p ≡ true) held.value held.within in
    let is = divided t c.instant.result c.div_euclid.result holds c.instant.ensures c.div_euclid.ensures in
    let fits = subst (λ (z : ℤ). FitsSigned w64 z) (sym (in_128 t holds)) (milliseconds_fit t holds) in
    subst (λ (z : ℤ). FitsSigned w64 (to_z w128 (of_z w128 z))) (sym is) fits

pub returns : goal.returns
returns c =
    let t = c.args.time.now in
    let held = c.parts-in_range.ensures in
    let holds : is_time t ≡ true = subst (λ p. is_time p ≡ true) held.value held.within in
    let is = divided t c.instant.result c.div_euclid.result holds c.instant.ensures c.div_euclid.ensures in
    let back = subst (λ (z : ℤ). to_z w64 (of_z w64 z) ≡ milliseconds_of t) (sym (in_128 t holds)) (in_64 t holds) in
    subst (λ (z : ℤ). to_z w64 (of_z w64 (to_z w128 (of_z w128 z))) ≡ milliseconds_of t) (sym is) back
