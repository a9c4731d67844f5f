use Rattle.std.proofs.Common.{◌≤ℤ◌, ℤ, pos, neg_ℤ, sym, subst, to_z-of_z, w64, to_z, of_z}
use Rattle.std.specs.Int.{int_div_euclid}
use Rattle.ion_time.proofs.Bounds.{day_bounds, day_back}
use Rattle.ion_time.proofs.millis.day_number.Goals as goal

pub returns-clause-first : goal.returns-clause-first
returns-clause-first c =
    let is = rw (to_z-of_z c.ranges.ms) at c.div_euclid.ensures in
    let bounds = day_bounds c.args.ms c.requires in
    let back = day_back (int_div_euclid c.args.ms (pos 86_400_000)) bounds.0 bounds.1 in
    let first = subst (λ (z : ℤ). neg_ℤ (pos 719_162) ≤ℤ z) (sym back) bounds.0 in
    subst (λ (z : ℤ). neg_ℤ (pos 719_162) ≤ℤ to_z w64 (of_z w64 z)) (sym is) first

pub returns-clause-last : goal.returns-clause-last
returns-clause-last c =
    let is = rw (to_z-of_z c.ranges.ms) at c.div_euclid.ensures in
    let bounds = day_bounds c.args.ms c.requires in
    let back = day_back (int_div_euclid c.args.ms (pos 86_400_000)) bounds.0 bounds.1 in
    let last = subst (λ (z : ℤ). z ≤ℤ pos 2_932_896) (sym back) bounds.1 in
    subst (λ (z : ℤ). to_z w64 (of_z w64 z) ≤ℤ pos 2_932_896) (sym is) last
