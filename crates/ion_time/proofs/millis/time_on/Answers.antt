use Rattle.std.proofs.Common.{◌≡◌, ◌≤◌, ◌∙◌, ℤ, pos, ◌+ℤ◌, ◌*ℤ◌, sym, subst, arith, to_z-of_z}
use Rattle.ion_values.specs.declared.time.TimeParts.{TimeParts}
use Rattle.ion_values.specs.Time.{IsTime}
use Rattle.ion_time.specs.Millis.{BeginsAt}
use Rattle.jiff_core.specs.Calendar.{IsCivilDate, days_from_civil}
use Rattle.jiff_core.proofs.DateLemmas.{civil}
use Rattle.jiff_core.proofs.SignedLemmas.{signed_arith}
use Rattle.ion_time.proofs.Begins.{on_day}
use Rattle.ion_time.proofs.millis.time_on.Goals as goal

pub time_of-requires : goal.time_of-requires
time_of-requires c =
    let d = c.date_of-date.result in
    let y = c.year_of-year.result in
    let civ = subst (λ (z : ℤ). IsCivilDate z d.month d.day) (sym c.year_of-year.ensures) (civil d) in
    let is = subst (λ (z : ℤ). days_from_civil z d.month d.day ≡ c.args.day) (sym c.year_of-year.ensures) (c.date_of-date.ensures.value ∙ to_z-of_z c.ranges.day) in
    let first : 1 ≤ y = omega (arith, signed_arith) in
    let last : y ≤ 9999 = omega (arith, signed_arith, civ.0) in
    let begins = on_day c.args.day y d.month d.day c.args.millis is civ first last c.requires.within c.requires.first c.requires.last in
    subst (λ (t : TimeParts). IsTime t) (sym c.time_of_day.ensures) begins.is_time

pub returns : goal.returns
returns c =
    let d = c.date_of-date.result in
    let y = c.year_of-year.result in
    let civ = subst (λ (z : ℤ). IsCivilDate z d.month d.day) (sym c.year_of-year.ensures) (civil d) in
    let is = subst (λ (z : ℤ). days_from_civil z d.month d.day ≡ c.args.day) (sym c.year_of-year.ensures) (c.date_of-date.ensures.value ∙ to_z-of_z c.ranges.day) in
    let first : 1 ≤ y = omega (arith, signed_arith) in
    let last : y ≤ 9999 = omega (arith, signed_arith, civ.0) in
    let begins = on_day c.args.day y d.month d.day c.args.millis is civ first last c.requires.within c.requires.first c.requires.last in
    subst (λ (t : TimeParts). BeginsAt (c.args.day *ℤ pos 86_400_000 +ℤ pos c.args.millis) t) (sym (c.time_of.ensures ∙ c.time_of_day.ensures)) begins
