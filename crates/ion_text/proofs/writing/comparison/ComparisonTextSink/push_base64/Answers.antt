use Rattle.std.proofs.Common.{◌≡◌, ◌+◌, ◌-◌, ◌%◌, ◌≤◌, true, length, refl, inl, inr, arith}
use Rattle.std.proofs.lemmas.Bool.{cases_lt}
use Rattle.base64.proofs.EngineFacts.{encode-nil}
use Rattle.ion_model.specs.Write.{base64_digits}
use Rattle.ion_text.proofs.Grouped.{grouped}
use Rattle.ion_text.proofs.writing.comparison.ComparisonTextSink.push_base64.Goals as goal

pub groups-init : goal.groups-init
groups-init c = (rw (encode-nil base64_digits 61 true) refl, omega arith, inl refl)

pub groups-preserved : goal.groups-preserved
groups-preserved c =
    let input = c.args.bytes.now in
    let d = c.groups.done in
    let n = c.min.result in
    let kept = c.groups.invariant in
    let more = c.groups-test.true in
    let least = c.min.ensures in
    let whole : d % 3 ≡ 0 = elim kept.2 [ inl h ↦ h | inr h ↦ absurd (omega (arith, h, more)) ] in
    let within : d + n ≤ length input = omega (arith, least, more) in (
      grouped c.args.self.now c.groups.self _ input n d whole within kept.0 c.step_over_group.ensures,
      within,
      (elim (cases_lt 48 (length input - d)) [
        | inl long ↦ inl (omega (arith, least, long, whole))
        | inr short ↦ inr (omega (arith, least, short, more))
      ]),
    )
