use Rattle.std.proofs.Common.{◌≡◌, ◌-◌, ◌^◌, ◌<◌, ◌≤◌, length, take}
use Rattle.hash_model.specs.Tree.{node, pad_hash}
use Rattle.pad_tree.specs.Paths.{folded}
use Rattle.tree_descent.proofs.walk.place_below.Given as goal

abbrev pub invariant-levels : goal.invariant-levels
invariant-levels l = record {
  low : l.place.level ≤ length l.path;
  small : l.place.at < 2 ^ (64 - l.place.level);
  hash : folded l.start (take l.place.level l.path) ≡ node pad_hash l.leaves l.place.level l.place.at;
}

abbrev pub decreases-levels : goal.decreases-levels
decreases-levels l = l.place.level
