use Rattle.std.proofs.Common.{◌≡◌, map, drop}
use Rattle.ion_values.specs.Within.{all_true, field_within, within}
use Rattle.ion_values.proofs.ranges.+within.Given as goal

-- those in front are within
abbrev pub invariant-values_are_within-values : goal.invariant-values_are_within-values
invariant-values_are_within-values l = all_true (map within (drop l.value-index l.values)) ≡ all_true (map within l.values)

abbrev pub invariant-fields_are_within-fields : goal.invariant-fields_are_within-fields
invariant-fields_are_within-fields l = all_true (map field_within (drop l.field-index l.fields)) ≡ all_true (map field_within l.fields)
