-- Worked rows of paths.
use Rattle.std.proofs.Common.{◌≡◌, [], ◌∷◌, refl}
use Rattle.ql_types.specs.declared.Hash32.{Hash32}
use Rattle.hash_model.specs.PairHash.{dot32}
use Rattle.hash_model.specs.Tree.{node, height_from, pad_hash}
use Rattle.pad_tree.specs.Paths.{siblings, path_of, folded}

-- beside the third of three leaves stands a pad, and beside their node that of the first two
third_of_three : (x y z : Hash32) → path_of (x ∷ y ∷ z ∷ []) 2 ≡ pad_hash ∷ dot32 x y ∷ []
unfolding siblings node height_from
third_of_three x y z = refl

-- a single leaf is its own root
only_leaf : (x : Hash32) → path_of (x ∷ []) 0 ≡ []
unfolding siblings node height_from
only_leaf x = refl

-- each hash of a path is taken in turn
fold_of_two : (x y z : Hash32) → folded x (y ∷ z ∷ []) ≡ dot32 (dot32 x y) z
fold_of_two x y z = refl
