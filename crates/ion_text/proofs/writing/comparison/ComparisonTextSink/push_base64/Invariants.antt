use Rattle.std.proofs.Common.{length, ◌-◌, ◌%◌, ◌≡◌, ◌≤◌, ◌⊎◌, take, true}
use Rattle.std.specs.List.{fold}
use Rattle.base64.specs.Rfc4648.{encode}
use Rattle.ion_model.specs.Write.{base64_digits}
use Rattle.ion_text.specs.Comparing.{without}
use Rattle.ion_text.proofs.writing.comparison.ComparisonTextSink.push_base64.Given as goal

abbrev pub invariant-groups : goal.invariant-groups
invariant-groups l =
    (l.self ≡ fold without l.initial.self (encode base64_digits 61 true (take l.done l.bytes)))
    × (l.done ≤ length l.bytes)
    × ((l.done % 3 ≡ 0) ⊎ (l.done ≡ length l.bytes))

abbrev pub decreases-groups : goal.decreases-groups
decreases-groups l = length l.bytes - l.done
