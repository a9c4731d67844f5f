-- The path of a leaf in a padded hash tree: the hashes that lead from the leaf to the root (QLDB Developer Guide, "Data
-- verification in Amazon QLDB", where they are the proof).
use Rattle.std.specs.Prelude.{ℕ, zero, suc, ◌+◌, ◌-◌, ◌/◌, ◌%◌, ◌^◌, ◌<◌, ◌≤◌, ◌≡◌, ◌==◌, List, [], ◌∷◌, length, slice_index_or, fold, if◌then◌else◌}
use Rattle.ql_types.specs.declared.Hash.TheVariants.{Full}
use Rattle.ql_types.specs.declared.Hash32.{Hash32}
use Rattle.hash_model.specs.PairHash.{dot32}
use Rattle.hash_model.specs.Tree.{node, height_of, pad_hash, root_of}

-- the other place under the same node
abbrev pub sibling_of : ℕ → ℕ
sibling_of place = if place % 2 == 0 then place + 1 else place - 1

-- the siblings on the way up from a place of a level, for each level on the way
unfoldable pub siblings : Hash32 → List Hash32 → ℕ → ℕ → ℕ → List Hash32
siblings pad leaves level zero place = []
siblings pad leaves level (suc levels) place =
    node pad leaves level (sibling_of place) ∷ siblings pad leaves (suc level) levels (place / 2)

-- the siblings from a leaf up to the root, the pad standing at the places without a leaf
abbrev pub path_over : Hash32 → List Hash32 → ℕ → List Hash32
path_over pad leaves i = siblings pad leaves 0 (height_of (length leaves)) i

-- the path of the leaf at place i
abbrev pub path_of : List Hash32 → ℕ → List Hash32
path_of leaves i = path_over pad_hash leaves i

-- a hash with each hash of a path in turn
abbrev pub folded : Hash32 → List Hash32 → Hash32
folded start path = fold dot32 start path

-- a path of this length can be that of leaf i of n
pub record FitsTree (i n : ℕ) (path : List Hash32) : Type 0 where
  pub within : i < n
  pub small : n ≤ 2 ^ 32
  pub long : length path ≡ height_of n

-- a leaf with the hashes of its path comes to the root
abbrev pub PathLeadsToRoot : Type 0
PathLeadsToRoot = (leaves : List Hash32) (i : ℕ) (pad : Hash32) → i < length leaves
    → Full (folded (slice_index_or leaves i pad) (path_of leaves i)) ≡ root_of leaves
