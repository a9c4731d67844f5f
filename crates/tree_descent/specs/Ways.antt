-- The way down a padded hash tree. Each node is the hash of the two below it, and all leaves stand at one depth, so as
-- many steps as the tree is high lead to a leaf or to a pad.
use Rattle.std.specs.Prelude.{ℕ, ◌+◌, ◌-◌, ◌*◌, ◌≡◌, ◌⊎◌, List, Option, Some, None, slice_get}
use Rattle.ql_types.specs.declared.Hash32.{Hash32}
use Rattle.hash_model.specs.Tree.{node, pad_hash}

-- the hash is that of one of the two places below a place
pub record IsBelow (leaves : List Hash32) (level at : ℕ) (h : Hash32) (next : ℕ) : Type 0 where
  pub place : (next ≡ 2 * at) ⊎ (next ≡ 2 * at + 1)
  pub hash : h ≡ node pad_hash leaves (level - 1) next

-- a way down ends at this leaf, or at a pad
abbrev pub IsEnd : List Hash32 → Hash32 → Option ℕ → Type 0
IsEnd leaves h (Some at) = slice_get leaves at ≡ Some h
IsEnd leaves h None = h ≡ pad_hash
