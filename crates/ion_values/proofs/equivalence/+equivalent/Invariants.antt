use Rattle.std.proofs.Common.{◌≡◌, ◌+◌, ◌≤◌, ◌==◌, drop, length, map, take}
use Rattle.std.specs.List.{count_by, list_all}
use Rattle.ion_values.specs.Equivalent.{in_any_order, in_order, is_equivalent, is_equivalent_field}
use Rattle.ion_values.proofs.equivalence.+equivalent.Given as goal

abbrev pub invariant-count-loop-other : goal.invariant-count-loop-other
invariant-count-loop-other l =
    record { told : l.found ≡ count_by (is_equivalent_field l.field) (take l.other-index l.fields); within : l.found ≤ l.other-index }

abbrev pub invariant-same_values-loop-at : goal.invariant-same_values-loop-at
invariant-same_values-loop-at l =
    record { lengths : length l.a ≡ length l.b; told : in_order (map is_equivalent (drop l.at l.a)) (drop l.at l.b) ≡ in_order (map is_equivalent l.a) l.b }

abbrev pub invariant-same_fields-loop-at : goal.invariant-same_fields-loop-at
invariant-same_fields-loop-at l =
    record { lengths : length l.a ≡ length l.b; told : in_any_order (map is_equivalent_field (drop l.at l.a)) (drop l.at l.b) ≡ in_any_order (map is_equivalent_field l.a) l.b }

abbrev pub invariant-same_counts-loop-at : goal.invariant-same_counts-loop-at
invariant-same_counts-loop-at l =
    list_all (λ f. count_by (is_equivalent_field f) (drop l.from l.a) == count_by (is_equivalent_field f) (drop l.from l.b)) (drop l.at l.a) ≡ list_all (λ f. count_by (is_equivalent_field f) (drop l.from l.a) == count_by (is_equivalent_field f) (drop l.from l.b)) (drop (l.from + 1) l.a)
