use Rattle.std.proofs.Common.{to_z-of_z, refl}
use Rattle.ion_values.proofs.Years.{first_day, day_after_last}
use Rattle.ion_values.proofs.time_ranges.is_in_years.Goals as goal

pub returns-then-minutes-ge-START_OF_1 : goal.returns-then-minutes-ge-START_OF_1
returns-then-minutes-ge-START_OF_1 c =
    let e = to_z-of_z c.ranges.minutes in
    let h = rw e at c.if-minutes-ge-START_OF_1.true in
    rw (first_day, day_after_last, e, h) refl

pub returns-else-minutes-ge-START_OF_1 : goal.returns-else-minutes-ge-START_OF_1
returns-else-minutes-ge-START_OF_1 c =
    let e = to_z-of_z c.ranges.minutes in
    let h = rw e at c.if-minutes-ge-START_OF_1.false in
    rw (first_day, day_after_last, e, h) refl
