use Rattle.std.proofs.Common.{◌≡◌, vec_len}
use Rattle.hash_model.specs.Tree.{root_over, root_of}
use Rattle.pad_tree.proofs.root.Given as goal

abbrev pub invariant-levels : goal.invariant-levels
invariant-levels l = root_over l.pad l.level.items ≡ root_of l.leaves

abbrev pub decreases-levels : goal.decreases-levels
decreases-levels l = vec_len l.level
