use Rattle.std.proofs.Common.{◌≡◌, ◌++◌, map, take}
use Rattle.hash_model.specs.Serialize.{field_hash, joined, serialize}
use Rattle.ion_hash.proofs.values.+serialize.Given as goal

abbrev pub invariant-put_values-loop-value : goal.invariant-put_values-loop-value
invariant-put_values-loop-value l = l.out ≡ l.initial.out ++ joined (map serialize (take l.value-index l.values))

abbrev pub invariant-hashes_of-loop-field : goal.invariant-hashes_of-loop-field
invariant-hashes_of-loop-field l = record {
  hashes : l.hashes.items ≡ map field_hash (take l.field-index l.fields);
  kept : l.out ≡ l.initial.out;
}
