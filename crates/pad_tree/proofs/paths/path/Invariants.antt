use Rattle.std.proofs.Common.{◌≡◌, ◌++◌, ◌<◌, length, vec_len}
use Rattle.pad_tree.specs.Paths.{path_over, path_of}
use Rattle.pad_tree.proofs.paths.path.Given as goal

abbrev pub invariant-levels : goal.invariant-levels
invariant-levels l = (l.siblings.items ++ path_over l.pad l.level.items l.place ≡ path_of l.leaves l.i)
    × (l.place < length l.level.items)

abbrev pub decreases-levels : goal.decreases-levels
decreases-levels l = vec_len l.level
