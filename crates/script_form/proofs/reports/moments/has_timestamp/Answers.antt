use Rattle.std.proofs.Common.{to_z-of_z, refl}
use Rattle.script_form.proofs.Moments.{in_years}
use Rattle.script_form.proofs.reports.moments.has_timestamp.Goals as goal

pub returns-then-moment-ge-START_OF_1 : goal.returns-then-moment-ge-START_OF_1
returns-then-moment-ge-START_OF_1 c =
    let e = to_z-of_z c.ranges.moment in
    let h = rw e at c.if-moment-ge-START_OF_1.true in
    rw (in_years c.args.moment, e, h) refl

pub returns-else-moment-ge-START_OF_1 : goal.returns-else-moment-ge-START_OF_1
returns-else-moment-ge-START_OF_1 c =
    let e = to_z-of_z c.ranges.moment in
    let h = rw e at c.if-moment-ge-START_OF_1.false in
    rw (in_years c.args.moment, e, h) refl
