use Rattle.std.proofs.Common.{◌≡◌, ◌<◌, ◌++◌, length}
use Rattle.pad_tree.specs.Growing.{leaves_in, level_of, pad_of}
use Rattle.pad_tree.specs.Paths.{path_over, path_of}
use Rattle.pad_tree.proofs.grow.path_in.Given as goal

abbrev pub invariant-levels : goal.invariant-levels
invariant-levels l = record {
  so_far : l.siblings.items ++ path_over (pad_of l.at) (level_of (leaves_in l.levels) l.at) l.place ≡ path_of (leaves_in l.levels) l.i;
  within : l.place < length (level_of (leaves_in l.levels) l.at);
}
