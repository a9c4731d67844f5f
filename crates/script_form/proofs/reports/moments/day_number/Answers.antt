use Rattle.std.proofs.Common.{◌≤ℤ◌, ◌≡◌, ℤ, pos, neg_ℤ, sym, subst, to_z-of_z, w64, to_z, of_z, FitsSigned}
use Rattle.std.specs.Int.{w128}
use Rattle.ledger_model.specs.Moment.{day_number}
use Rattle.script_form.proofs.Moments.{day_bounds, day_fits, day_back}
use Rattle.script_form.proofs.reports.moments.day_number.Goals as goal

pub overflow_cast-result : goal.overflow_cast-result
overflow_cast-result c =
    let is = rw (to_z-of_z c.ranges.moment) at c.div_euclid.ensures in
    let bounds = day_bounds c.args.moment c.requires in
    subst (λ (z : ℤ). FitsSigned w64 (to_z w128 (of_z w128 z))) (sym is) (day_fits (day_number c.args.moment) bounds.0 bounds.1)

pub returns-clause-value : goal.returns-clause-value
returns-clause-value c =
    let is = rw (to_z-of_z c.ranges.moment) at c.div_euclid.ensures in
    let bounds = day_bounds c.args.moment c.requires in
    let back = day_back (day_number c.args.moment) bounds.0 bounds.1 in
    subst (λ (z : ℤ). to_z w64 (of_z w64 (to_z w128 (of_z w128 z))) ≡ day_number c.args.moment) (sym is) back

pub returns-clause-first : goal.returns-clause-first
returns-clause-first c =
    let is = rw (to_z-of_z c.ranges.moment) at c.div_euclid.ensures in
    let bounds = day_bounds c.args.moment c.requires in
    let back = day_back (day_number c.args.moment) bounds.0 bounds.1 in
    let first = subst (λ (z : ℤ). neg_ℤ (pos 719_162) ≤ℤ z) (sym back) bounds.0 in
    subst (λ (z : ℤ). neg_ℤ (pos 719_162) ≤ℤ to_z w64 (of_z w64 (to_z w128 (of_z w128 z)))) (sym is) first

pub returns-clause-last : goal.returns-clause-last
returns-clause-last c =
    let is = rw (to_z-of_z c.ranges.moment) at c.div_euclid.ensures in
    let bounds = day_bounds c.args.moment c.requires in
    let back = day_back (day_number c.args.moment) bounds.0 bounds.1 in
    let last = subst (λ (z : ℤ). z ≤ℤ pos 2_932_896) (sym back) bounds.1 in
    subst (λ (z : ℤ). to_z w64 (of_z w64 (to_z w128 (of_z w128 z))) ≤ℤ pos 2_932_896) (sym is) last
