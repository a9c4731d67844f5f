use Rattle.std.proofs.Common.{◌≡◌, ◌++◌, map, take}
use Rattle.hash_model.specs.Serialize.{joined}
use Rattle.ion_binary_out.specs.BinaryText.{field_bytes, value_bytes}
use Rattle.ion_binary_out.proofs.values.+binary.Given as goal

abbrev pub invariant-put_values-loop-value : goal.invariant-put_values-loop-value
invariant-put_values-loop-value l = l.out ≡ l.initial.out ++ joined (map (value_bytes l.symbols) (take l.value-index l.values))

abbrev pub invariant-put_fields-loop-field : goal.invariant-put_fields-loop-field
invariant-put_fields-loop-field l = l.out ≡ l.initial.out ++ joined (map (field_bytes l.symbols) (take l.field-index l.fields))
