use Rattle.std.proofs.Common.{◌<◌, ◌≤◌, ℕ, get_or}
use Rattle.pad_tree.specs.Growing.{KeptLevel, SameNodes}
use Rattle.pad_tree.proofs.grow.make_room.Given as goal

abbrev pub invariant-levels : goal.invariant-levels
invariant-levels l = record {
  same : SameNodes l.levels l.fn.levels;
  room : (level : ℕ) (d : KeptLevel) → level < l.at → 1 ≤ (get_or l.levels level d).spare;
}
