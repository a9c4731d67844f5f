-- The hash tree over a list of leaves. That each node is the hash of the two below it is the rule of
-- the Amazon QLDB Developer Guide, "Data verification in Amazon QLDB". The ledger's own rule is that
-- the leaves are padded to a power of two with the Ion Hash 1.0 of the symbol `pad`.
use Rattle.std.specs.Prelude.{ℕ, zero, suc, ◌+◌, ◌-◌, ◌*◌, ◌^◌, ◌<◌, ◌≡◌, nat_le, List, [], ◌∷◌, ◌++◌, length, slice_index_or, map, replicate, codes, if◌then◌else◌}
use Rattle.sha2.specs.Sha256.{sha256}
use Rattle.ql_types.specs.declared.Hash.{Hash}
use Rattle.ql_types.specs.declared.Hash.TheVariants.{Empty, Full}
use Rattle.ql_types.specs.declared.Hash32.{Hash32}
use Rattle.hash_model.specs.PairHash.{dot32}
use Rattle.hash_model.specs.Serialize.{symbol_bytes}

-- the symbol `pad` as Ion Hash serializes it
abbrev pub pad_form : List ℕ
pad_form = symbol_bytes (codes "pad")

-- what stands at each place that has no leaf
unfoldable pub pad_hash : Hash32
pad_hash = record { bytes = sha256 pad_form }

-- the first h of low, low + 1 and so on with room for n leaves, where the last of the tries has it
unfoldable pub height_from : ℕ → ℕ → ℕ → ℕ
height_from zero low n = low
height_from (suc tries) low n = if nat_le n (2 ^ low) then low else height_from tries (suc low) n

-- the height of the tree over n leaves: the least h with n ≤ 2 ^ h
abbrev pub height_of : ℕ → ℕ
height_of n = height_from n 0 n

-- the node at a place of a level. Level 0 is the leaves, and then pads. Above it each node is the
-- hash of the two nodes below it
unfoldable pub node : Hash32 → List Hash32 → ℕ → ℕ → Hash32
node pad leaves zero place = slice_index_or leaves place pad
node pad leaves (suc level) place =
    dot32 (node pad leaves level (2 * place)) (node pad leaves level (2 * place + 1))

-- the node at the top, or empty where there are no leaves
abbrev pub root_over : Hash32 → List Hash32 → Hash
root_over pad [] = Empty
root_over pad (x ∷ xs) = Full (node pad (x ∷ xs) (height_of (length (x ∷ xs))) 0)

-- the root of the tree over these leaves
abbrev pub root_of : List Hash32 → Hash
root_of leaves = root_over pad_hash leaves

-- the leaves and then pads, as many as fill the tree
abbrev pub padded : List Hash32 → List Hash32
padded leaves = leaves ++ replicate (2 ^ height_of (length leaves) - length leaves) pad_hash

-- the hashes of a list's neighbours, two by two
unfoldable pub paired : List Hash32 → List Hash32
paired (x ∷ y ∷ rest) = dot32 x y ∷ paired rest
paired (x ∷ []) = []
paired [] = []

-- a list after its neighbours are hashed once for each level
unfoldable pub paired_times : ℕ → List Hash32 → List Hash32
paired_times zero xs = xs
paired_times (suc times) xs = paired_times times (paired xs)

-- the root is what the padded leaves come to, level by level
abbrev pub RootLevelByLevel : Type 0
RootLevelByLevel = (leaves : List Hash32) → 0 < length leaves
    → map Full (paired_times (height_of (length leaves)) (padded leaves)) ≡ root_of leaves ∷ []
