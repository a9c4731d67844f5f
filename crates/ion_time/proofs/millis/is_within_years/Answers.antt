use Rattle.std.proofs.Common.{to_z-of_z, refl}
use Rattle.ion_values.proofs.Years.{first_day, day_after_last}
use Rattle.ion_time.proofs.millis.is_within_years.Goals as goal

pub returns-then-ms-ge-START_OF_1 : goal.returns-then-ms-ge-START_OF_1
returns-then-ms-ge-START_OF_1 c =
    let e = to_z-of_z c.ranges.ms in
    let h = rw e at c.if-ms-ge-START_OF_1.true in
    rw (first_day, day_after_last, e, h) refl

pub returns-else-ms-ge-START_OF_1 : goal.returns-else-ms-ge-START_OF_1
returns-else-ms-ge-START_OF_1 c =
    let e = to_z-of_z c.ranges.ms in
    let h = rw e at c.if-ms-ge-START_OF_1.false in
    rw (first_day, day_after_last, e, h) refl
