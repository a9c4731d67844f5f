use Rattle.std.proofs.Common.{◌≡◌, take}
use Rattle.block_copies.proofs.copies.copy_schema.Given as goal

abbrev pub invariant-loop-change : goal.invariant-loop-change
invariant-loop-change l = l.new.items ≡ take l.change-index l.schema
