use Rattle.std.proofs.Common.{◌≤ℤ◌, ℤ, pos, neg_ℤ, sym, subst, ◌∙◌, to_z-of_z}
use Rattle.jiff_core.proofs.DateLemmas.{civil}
use Rattle.ion_time.proofs.Begins.{from_first_year}
use Rattle.ion_time.proofs.days.date_of.Goals as goal

pub returns-clause-first : goal.returns-clause-first
returns-clause-first c =
    let d = c.unwrap.result in
    let value = rw c.unwrap.ensures at c.from_unix_epoch_day.ensures.value in
    let late = subst (λ (z : ℤ). neg_ℤ (pos 719_162) ≤ℤ z) (sym (value ∙ to_z-of_z c.ranges.day)) c.requires.first in
    from_first_year d.year d.month d.day (civil d) late
