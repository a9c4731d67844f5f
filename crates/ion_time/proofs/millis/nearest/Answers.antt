use Rattle.std.proofs.Common.{to_z-of_z, refl}
use Rattle.ion_values.proofs.Years.{first_day, day_after_last}
use Rattle.ion_time.proofs.Bounds.{between_is_within}
use Rattle.ion_time.proofs.millis.nearest.Goals as goal

pub returns-then-ms-lt-START_OF_1-clause-value : goal.returns-then-ms-lt-START_OF_1-clause-value
returns-then-ms-lt-START_OF_1-clause-value c =
    let early = rw (to_z-of_z c.ranges.ms) at c.if-ms-lt-START_OF_1.true in
    rw (first_day, early) refl

pub returns-then-ms-lt-START_OF_1-clause-within : goal.returns-then-ms-lt-START_OF_1-clause-within
returns-then-ms-lt-START_OF_1-clause-within c = rw (first_day, day_after_last) refl

pub returns-then-ms-ge-START_OF_10000-clause-value : goal.returns-then-ms-ge-START_OF_10000-clause-value
returns-then-ms-ge-START_OF_10000-clause-value c =
    let e = to_z-of_z c.ranges.ms in
    let early = rw e at c.if-ms-lt-START_OF_1.false in
    let late = rw e at c.if-ms-ge-START_OF_10000.true in
    rw (first_day, day_after_last, early, late) refl

pub returns-then-ms-ge-START_OF_10000-clause-within : goal.returns-then-ms-ge-START_OF_10000-clause-within
returns-then-ms-ge-START_OF_10000-clause-within c = rw (first_day, day_after_last) refl

pub returns-else-ms-ge-START_OF_10000-clause-value : goal.returns-else-ms-ge-START_OF_10000-clause-value
returns-else-ms-ge-START_OF_10000-clause-value c =
    let e = to_z-of_z c.ranges.ms in
    let early = rw e at c.if-ms-lt-START_OF_1.false in
    let late = rw e at c.if-ms-ge-START_OF_10000.false in
    rw (first_day, day_after_last, e, early, late) refl

pub returns-else-ms-ge-START_OF_10000-clause-within : goal.returns-else-ms-ge-START_OF_10000-clause-within
returns-else-ms-ge-START_OF_10000-clause-within c =
    let e = to_z-of_z c.ranges.ms in
    let early = rw e at c.if-ms-lt-START_OF_1.false in
    let late = rw e at c.if-ms-ge-START_OF_10000.false in
    rw e (between_is_within c.args.ms early late)
