use Rattle.std.proofs.Common.{◌≡◌, ◌≤◌, ◌∙◌, ℤ, sym, subst, arith, to_z-of_z}
use Rattle.ion_values.specs.declared.time.TimeParts.{TimeParts}
use Rattle.ion_values.specs.Time.{IsTime}
use Rattle.jiff_core.specs.Calendar.{IsCivilDate, days_from_civil}
use Rattle.jiff_core.proofs.DateLemmas.{civil}
use Rattle.jiff_core.proofs.SignedLemmas.{signed_arith}
use Rattle.script_form.proofs.Moments.{on_the_day, timestamp_on_the_day}
use Rattle.script_form.proofs.reports.moments.time_on.Goals as goal

pub time_of-requires : goal.time_of-requires
time_of-requires c =
    let d = c.date_of-date.result in
    let y = c.year_of-year.result in
    let civ = subst (λ (z : ℤ). IsCivilDate z d.month d.day) (sym c.year_of-year.ensures) (civil d) in
    let is = subst (λ (z : ℤ). days_from_civil z d.month d.day ≡ c.args.day) (sym c.year_of-year.ensures) (c.date_of-date.ensures.value ∙ to_z-of_z c.ranges.day) in
    let first : 1 ≤ y = omega (arith, signed_arith) in
    let last : y ≤ 9999 = omega (arith, signed_arith, civ.0) in
    let whole = timestamp_on_the_day y d.month d.day c.args.nanos c.args.day civ first last is c.requires.within c.requires.first c.requires.last in
    subst (λ (t : TimeParts). IsTime t) (sym c.time_at.ensures) whole

pub returns : goal.returns
returns c =
    let d = c.date_of-date.result in
    let y = c.year_of-year.result in
    let civ = subst (λ (z : ℤ). IsCivilDate z d.month d.day) (sym c.year_of-year.ensures) (civil d) in
    let is = subst (λ (z : ℤ). days_from_civil z d.month d.day ≡ c.args.day) (sym c.year_of-year.ensures) (c.date_of-date.ensures.value ∙ to_z-of_z c.ranges.day) in
    let first : 1 ≤ y = omega (arith, signed_arith) in
    let last : y ≤ 9999 = omega (arith, signed_arith, civ.0) in
    c.time_of.ensures ∙ c.time_at.ensures ∙ on_the_day y d.month d.day c.args.nanos c.args.day civ first last is
