use Rattle.std.proofs.Common.{◌≡◌, ◌++◌, take}
use Rattle.std.specs.List.{flat_map}
use Rattle.hash_model.specs.Serialize.{symbol_bytes}
use Rattle.ion_hash.proofs.values.put_annotations.Given as goal

abbrev pub invariant-loop-name : goal.invariant-loop-name
invariant-loop-name l = l.out ≡ l.initial.out ++ flat_map symbol_bytes (take l.name-index l.name-items)
