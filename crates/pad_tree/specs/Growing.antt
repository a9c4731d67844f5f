-- A padded hash tree that grows a leaf at a time: the nodes of each level, and how they are kept.
use Rattle.std.specs.Prelude.{◌≡◌, ℕ, zero, suc, ◌+◌, ◌-◌, ◌<◌, ◌≤◌, ◌^◌, min, List, [], ◌∷◌, length, slice_index_or}
use Rattle.ql_types.specs.declared.Hash32.{Hash32}
use Rattle.hash_model.specs.PairHash.{dot32}
use Rattle.hash_model.specs.Tree.{pad_hash}

-- ---- the levels of a tree

-- the nodes over these, two by two; the pad stands beside a last one that has no neighbour
unfoldable pub nodes_over : Hash32 → List Hash32 → List Hash32
nodes_over pad (x ∷ y ∷ rest) = dot32 x y ∷ nodes_over pad rest
nodes_over pad (x ∷ []) = dot32 x pad ∷ []
nodes_over pad [] = []

-- the level over a level; there is none over a root
abbrev pub level_over : Hash32 → List Hash32 → List Hash32
level_over pad (x ∷ y ∷ rest) = dot32 x y ∷ nodes_over pad rest
level_over pad (x ∷ []) = []
level_over pad [] = []

-- the hash at each place of a level that has no leaves below it
unfoldable pub pad_of : ℕ → Hash32
pad_of zero = pad_hash
pad_of (suc level) = dot32 (pad_of level) (pad_of level)

-- the nodes of a level that have leaves below them; level 0 is the leaves
unfoldable pub level_of : List Hash32 → ℕ → List Hash32
level_of leaves zero = leaves
level_of leaves (suc level) = level_over (pad_of level) (level_of leaves level)

-- how many nodes with leaves below them stand above the leaves, up to a level
unfoldable pub nodes_up_to : List Hash32 → ℕ → ℕ
nodes_up_to leaves zero = 0
nodes_up_to leaves (suc level) = nodes_up_to leaves level + length (level_of leaves (suc level))

-- and in the whole tree, as high as 2^32 leaves make it
abbrev pub nodes_above : List Hash32 → ℕ
nodes_above leaves = nodes_up_to leaves 32

-- ---- a counter of 64 bits

-- the counter after a number of steps; at its end it stands still
unfoldable pub after_steps : ℕ → ℕ → ℕ
after_steps zero taken = taken
after_steps (suc more) taken = min (after_steps more taken + 1) (2 ^ 64 - 1)

-- ---- how they are kept

-- the nodes of a level, its pad, and for how many more nodes there is room already
pub record KeptLevel : Type 0 where
  pub nodes : List Hash32
  pub pad : Hash32
  pub spare : ℕ

-- the leaves of a tree, and for how many more there is room already
pub record KeptTree : Type 0 where
  pub leaves : List Hash32
  pub spare : ℕ

-- the leaves are the nodes of the lowest level
abbrev pub leaves_in : List KeptLevel → List Hash32
leaves_in [] = []
leaves_in (lowest ∷ above) = lowest.nodes

-- the level of the tree over these leaves
pub record IsLevel (leaves : List Hash32) (level : ℕ) (kept : KeptLevel) : Type 0 where
  pub nodes : kept.nodes ≡ level_of leaves level
  pub pad : kept.pad ≡ pad_of level

-- the levels of one tree, as many as 2^32 leaves take
pub record IsTower (levels : List KeptLevel) : Type 0 where
  pub long : length levels ≡ 33
  pub few : length (leaves_in levels) ≤ 2 ^ 32
  pub each : (level : ℕ) (d : KeptLevel) → level < 33 → IsLevel (leaves_in levels) level (slice_index_or levels level d)

-- each level has room for one node more
abbrev pub HasRoom : List KeptLevel → Type 0
HasRoom levels = (level : ℕ) (d : KeptLevel) → level < length levels → 1 ≤ (slice_index_or levels level d).spare

-- the same nodes and pads, whatever room there is
pub record SameNodes (a b : List KeptLevel) : Type 0 where
  pub long : length a ≡ length b
  pub nodes : (level : ℕ) (d : KeptLevel) → level < length a →
      (slice_index_or a level d).nodes ≡ (slice_index_or b level d).nodes
  pub pads : (level : ℕ) (d : KeptLevel) → level < length a →
      (slice_index_or a level d).pad ≡ (slice_index_or b level d).pad
