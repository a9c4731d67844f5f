use Rattle.std.proofs.Common.{◌≡◌, ◌++◌, take}
use Rattle.ion_binary_out.specs.BinaryText.{ids_of}
use Rattle.ion_binary_out.proofs.values.put_ids.Given as goal

abbrev pub invariant-loop-name : goal.invariant-loop-name
invariant-loop-name l = l.out ≡ l.initial.out ++ ids_of l.symbols (take l.name-index l.name-items)
