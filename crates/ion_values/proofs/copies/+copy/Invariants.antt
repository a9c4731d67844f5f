use Rattle.std.proofs.Common.{◌≡◌, take}
use Rattle.ion_values.proofs.copies.+copy.Given as goal

abbrev pub invariant-copy_fields-loop-field : goal.invariant-copy_fields-loop-field
invariant-copy_fields-loop-field l = l.new.items ≡ take l.field-index l.fields

abbrev pub invariant-copy_values-loop-value : goal.invariant-copy_values-loop-value
invariant-copy_values-loop-value l = l.new.items ≡ take l.value-index l.values
