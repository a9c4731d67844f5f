-- The days on which the years 1 and 10000 begin.
use Rattle.std.proofs.Common.{◌≡◌, refl, arith, pos, negsuc}
use Rattle.jiff_core.specs.Calendar.{days_from_civil}
use Rattle.jiff_core.proofs.CalendarLemmas.{day_count-end, days_from_civil-day_count}
use Rattle.jiff_core.proofs.MarchLemmas.{day_count-early}
use Rattle.jiff_core.proofs.SignedLemmas.{signed_arith}

pub first_day : days_from_civil (pos 1) 1 1 ≡ negsuc 719_161
first_day =
    omega (arith, signed_arith, days_from_civil-day_count (pos 1) 1 1, day_count-early (pos 1) 10_000 1 1 refl (omega arith) (omega arith) (omega arith))

pub day_after_last : days_from_civil (pos 10_000) 1 1 ≡ pos 2_932_897
day_after_last = omega (arith, signed_arith, days_from_civil-day_count (pos 10_000) 1 1, day_count-end)
