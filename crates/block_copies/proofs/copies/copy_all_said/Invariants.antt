use Rattle.std.proofs.Common.{◌≡◌, take}
use Rattle.block_copies.proofs.copies.copy_all_said.Given as goal

abbrev pub invariant-loop-one : goal.invariant-loop-one
invariant-loop-one l = l.new.items ≡ take l.one-index l.said
