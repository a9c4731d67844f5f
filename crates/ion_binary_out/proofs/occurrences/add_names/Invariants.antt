use Rattle.std.proofs.Common.{◌≡◌, take}
use Rattle.std.specs.Prelude.{fold}
use Rattle.ion_binary_out.specs.BinaryText.{with_symbol}
use Rattle.ion_binary_out.proofs.occurrences.add_names.Given as goal

abbrev pub invariant-loop-name : goal.invariant-loop-name
invariant-loop-name l = l.symbols ≡ fold with_symbol l.initial.symbols (take l.name-index l.name-items)
