use Rattle.std.proofs.Common.{◌≡◌, drop, length, map}
use Rattle.ion_values.specs.Equivalent.{in_order}
use Rattle.ion_same.specs.Same.{is_same, is_same_field}
use Rattle.ion_same.proofs.same.+same.Given as goal

abbrev pub invariant-same_values-loop-at : goal.invariant-same_values-loop-at
invariant-same_values-loop-at l =
    record { lengths : length l.a ≡ length l.b; told : in_order (map is_same (drop l.at l.a)) (drop l.at l.b) ≡ in_order (map is_same l.a) l.b }

abbrev pub invariant-same_fields-loop-at : goal.invariant-same_fields-loop-at
invariant-same_fields-loop-at l =
    record { lengths : length l.a ≡ length l.b; told : in_order (map is_same_field (drop l.at l.a)) (drop l.at l.b) ≡ in_order (map is_same_field l.a) l.b }
