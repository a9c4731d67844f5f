use Rattle.std.proofs.Common.{◌≡◌, ◌≤◌, map, min, max, drop}
use Rattle.ion_values.specs.Depth.{depth_of, field_depth, deepest}
use Rattle.ion_values.proofs.depths.+depth.Given as goal

abbrev pub invariant-depth_of_fields-loop-field : goal.invariant-depth_of_fields-loop-field
invariant-depth_of_fields-loop-field l =
    record { told : min (max l.deepest (deepest (map field_depth (drop l.field-index l.fields)))) 4294967295 ≡ min (deepest (map field_depth l.fields)) 4294967295; fits : l.deepest ≤ 4294967295 }

abbrev pub invariant-depth_of_values-loop-value : goal.invariant-depth_of_values-loop-value
invariant-depth_of_values-loop-value l =
    record { told : min (max l.deepest (deepest (map depth_of (drop l.value-index l.values)))) 4294967295 ≡ min (deepest (map depth_of l.values)) 4294967295; fits : l.deepest ≤ 4294967295 }
