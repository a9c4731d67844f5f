use Rattle.std.proofs.Common.{◌≡◌, take}
use Rattle.ion_values.proofs.copies.copy_names.Given as goal

abbrev pub invariant-loop-name : goal.invariant-loop-name
invariant-loop-name l = l.new.items ≡ take l.name-index l.name-items
