use Rattle.std.proofs.Common.{◌≡◌, take}
use Rattle.std.specs.Prelude.{fold}
use Rattle.std.specs.List.{flat_map}
use Rattle.ion_binary_out.specs.BinaryText.{texts_in, texts_in_field, with_symbol}
use Rattle.ion_binary_out.proofs.occurrences.+occurrences.Given as goal

abbrev pub invariant-add_values-loop-value : goal.invariant-add_values-loop-value
invariant-add_values-loop-value l = l.symbols ≡ fold with_symbol l.initial.symbols (flat_map texts_in (take l.value-index l.values))

abbrev pub invariant-add_fields-loop-field : goal.invariant-add_fields-loop-field
invariant-add_fields-loop-field l = l.symbols ≡ fold with_symbol l.initial.symbols (flat_map texts_in_field (take l.field-index l.fields))
