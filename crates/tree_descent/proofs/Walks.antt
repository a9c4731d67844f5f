-- Steps down a tree.
use Rattle.std.proofs.Common.{◌≡◌, ◌⊎◌, inl, inr, ℕ, zero, suc, ◌+◌, ◌-◌, ◌*◌, ◌^◌, ◌<◌, ◌≤◌, List, [], ◌∷◌, length, take, Some, get_or, refl, ap, arith}
use Rattle.std.specs.Prelude.{slice_get}
use Rattle.std.proofs.Math.Pow.{pow_mono}
use Rattle.ql_types.specs.declared.Hash32.{Hash32}
use Rattle.ql_types.specs.declared.Hash.TheVariants.{Full}
use Rattle.hash_model.specs.PairHash.{dot32}
use Rattle.hash_model.specs.Tree.{height_of, node, pad_hash, root_of}
use Rattle.pad_tree.specs.Paths.{folded}
use Rattle.pad_tree.proofs.Room.{height_of-least}

-- the places below are within the level below
pub doubled : (level at : ℕ) → 1 ≤ level → level ≤ 64 → at < 2 ^ (64 - level) → 2 * at + 1 < 2 ^ (64 - (level - 1))
doubled level at high low small =
    let more : 64 - (level - 1) ≡ suc (64 - level) = omega arith in
    rw more (omega arith)

pub doubled_left : (level at : ℕ) → 1 ≤ level → level ≤ 64 → at < 2 ^ (64 - level) → 2 * at < 2 ^ (64 - (level - 1))
doubled_left level at high low small = let more = doubled level at high low small in omega (arith, more)

-- and within 64 bits
pub in_range : (level at : ℕ) → 1 ≤ level → level ≤ 64 → at < 2 ^ (64 - level) → 2 * at + 1 < 2 ^ 64
in_range level at high low small =
    let more = doubled level at high low small in
    let less : 64 - (level - 1) ≤ 64 = omega arith in
    let wide = pow_mono less in
    omega (arith, more, wide)

pub within_below : (level at next : ℕ) → 1 ≤ level → level ≤ 64 → at < 2 ^ (64 - level) → (next ≡ 2 * at) ⊎ (next ≡ 2 * at + 1) → next < 2 ^ (64 - (level - 1))
within_below level at next high low small (inl is) = let more = doubled level at high low small in omega (arith, more, is)
within_below level at next high low small (inr is) = let more = doubled level at high low small in omega (arith, more, is)

pub some_room : (n : ℕ) → 0 < 2 ^ n
some_room zero = omega arith
some_room (suc n) = let before = some_room n in omega (arith, before)

pub node_over : (leaves : List Hash32) (level at : ℕ) → 1 ≤ level
    → node pad_hash leaves level at ≡ dot32 (node pad_hash leaves (level - 1) (2 * at)) (node pad_hash leaves (level - 1) (2 * at + 1))
unfolding node
node_over leaves zero at high = absurd (omega arith)
node_over leaves (suc level) at high =
    let less : suc level - 1 ≡ level = omega arith in
    rw less refl

pub node_lowest : (leaves : List Hash32) (at : ℕ) → node pad_hash leaves 0 at ≡ get_or leaves at pad_hash
unfolding node
node_lowest leaves at = refl

-- the last hash of a path in front of a place is put to what comes before it
pub fold_step : (start : Hash32) (path : List Hash32) (level : ℕ) (h : Hash32) → slice_get path level ≡ Some h
    → folded start (take (suc level) path) ≡ dot32 (folded start (take level path)) h
fold_step start [] level h e = cc
fold_step start (x ∷ path) zero h e = let same : x ≡ h = cc in ap (dot32 start) same
fold_step start (x ∷ path) (suc level) h e = fold_step (dot32 start x) path level h e

pub low_tree : (leaves : List Hash32) → length leaves < 2 ^ 64 → height_of (length leaves) ≤ 64
low_tree leaves few = height_of-least (length leaves) 64 (omega arith)

-- the root is the node at the top
pub root_is : (leaves : List Hash32) (h : Hash32) → Full h ≡ root_of leaves → h ≡ node pad_hash leaves (height_of (length leaves)) 0
root_is [] h e = cc
root_is (x ∷ xs) h e = cc

pub past_end : (leaves : List Hash32) (at : ℕ) (pad : Hash32) → length leaves ≤ at → get_or leaves at pad ≡ pad
past_end [] at pad end = refl
past_end (x ∷ xs) zero pad end = absurd (omega (arith, end))
past_end (x ∷ xs) (suc at) pad end = past_end xs at pad (omega (arith, end))
