use Rattle.std.proofs.Common.{◌≡◌, length}
use Rattle.test_hash.proofs.trees.grown_to.Given as goal

abbrev pub invariant-leaves : goal.invariant-leaves
invariant-leaves l = length l.grow.leaves ≡ l.leaf-index
