use Rattle.std.proofs.Common.{ℤ, pos, subst, to_z-of_z}
use Rattle.std.specs.Int.{int_div_euclid}
use Rattle.ion_time.specs.Millis.{BeginsAt}
use Rattle.ion_time.proofs.Bounds.{day_bounds, day_back, day_and_rest}
use Rattle.ion_time.proofs.millis.time_at.Goals as goal

pub returns : goal.returns
returns c =
    let e = to_z-of_z c.ranges.ms in
    let bounds = day_bounds c.args.ms c.requires in
    let day = rw e at c.day_number.ensures.value in
    let rest = rw e at c.millis_of_day.ensures.value in
    let back = day_back (int_div_euclid c.args.ms (pos 86_400_000)) bounds.0 bounds.1 in
    let begins = rw (day, back, rest) at c.time_on.ensures in
    subst (λ (z : ℤ). BeginsAt z c.time_on.result) (day_and_rest c.args.ms) begins
