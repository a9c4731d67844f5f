-- The top node is what the padded leaves come to when neighbours are hashed level by level.
use Rattle.std.proofs.Common.{◌≡◌, ◌∙◌, ℕ, zero, suc, ◌+◌, ◌-◌, ◌*◌, ◌^◌, ◌<◌, List, [], ◌∷◌, length, get_or, map, replicate, inl, inr, arith, refl, sym, ap}
use Rattle.std.proofs.lemmas.List.{get_or_append_left, get_or-append_right, get_or_past, length-append, length-replicate}
use Rattle.std.proofs.lemmas.Bool.Decides.{leb_tells}
use Rattle.ql_types.specs.declared.Hash.TheVariants.{Full}
use Rattle.ql_types.specs.declared.Hash32.{Hash32}
use Rattle.hash_model.specs.PairHash.{dot32}
use Rattle.hash_model.specs.Tree.{node, height_of, pad_hash, padded, paired, paired_times, RootLevelByLevel}
use Rattle.pad_tree.proofs.Room.{height_of-room}

length-paired : (xs : List Hash32) (m : ℕ) → length xs ≡ 2 * m → length (paired xs) ≡ m
unfolding paired
length-paired [] m e = omega arith
length-paired (x ∷ []) m e = absurd (omega arith)
length-paired (x ∷ y ∷ xs) zero e = absurd (omega arith)
length-paired (x ∷ y ∷ xs) (suc m) e = ap suc (length-paired xs m (omega arith))

get_or-paired : (xs : List Hash32) (j : ℕ) (d : Hash32) → 2 * j + 1 < length xs
    → get_or (paired xs) j d ≡ dot32 (get_or xs (2 * j) d) (get_or xs (2 * j + 1) d)
unfolding paired
get_or-paired [] j d h = absurd (omega arith)
get_or-paired (x ∷ []) j d h = absurd (omega arith)
get_or-paired (x ∷ y ∷ xs) zero d h = refl
get_or-paired (x ∷ y ∷ xs) (suc j) d h =
    let left : 2 * suc j ≡ suc (suc (2 * j)) = omega arith in
    let right : 2 * suc j + 1 ≡ suc (suc (2 * j + 1)) = omega arith in
    rw (right, left) (get_or-paired xs j d (omega arith))

only_item : (xs : List Hash32) (d : Hash32) → length xs ≡ 1 → xs ≡ get_or xs 0 d ∷ []
only_item [] d e = absurd (omega arith)
only_item (x ∷ []) d e = refl
only_item (x ∷ y ∷ xs) d e = absurd (omega arith)

-- a full level of a tree comes to the tree's top node
paired_times-node : (leaves xs : List Hash32) (pad d : Hash32) (level times top : ℕ) → top ≡ level + times → length xs ≡ 2 ^ times
    → ((j : ℕ) → j < 2 ^ times → get_or xs j d ≡ node pad leaves level j) → paired_times times xs ≡ node pad leaves top 0 ∷ []
unfolding paired_times node
paired_times-node leaves xs pad d level zero top e long nodes =
    let same : top ≡ level = omega arith in
    only_item xs d long ∙ rw same (ap (λ x. x ∷ []) (nodes 0 (omega arith)))
paired_times-node leaves xs pad d level (suc times) top e long nodes =
    paired_times-node leaves (paired xs) pad d (suc level) times top (omega arith)
    (length-paired xs (2 ^ times) (omega arith)) (λ j h. next j h)
  where
    next : (j : ℕ) → j < 2 ^ times → get_or (paired xs) j d ≡ node pad leaves (suc level) j
    next j h =
        get_or-paired xs j d (omega arith)
        ∙ ap (λ left. dot32 left (get_or xs (2 * j + 1) d)) (nodes (2 * j) (omega arith))
        ∙ ap (λ right. dot32 (node pad leaves level (2 * j)) right) (nodes (2 * j + 1) (omega arith))

get_or-pads : (n i : ℕ) → get_or (replicate n pad_hash) i pad_hash ≡ pad_hash
get_or-pads zero i = refl
get_or-pads (suc n) zero = refl
get_or-pads (suc n) (suc i) = get_or-pads n i

-- the padded leaves are level 0
get_or-padded : (leaves : List Hash32) (j : ℕ) → get_or (padded leaves) j pad_hash ≡ node pad_hash leaves 0 j
unfolding node
get_or-padded leaves j =
    let pads = replicate (2 ^ height_of (length leaves) - length leaves) pad_hash in
    elim (leb_tells (suc j) (length leaves)) [
      | inl t ↦ get_or_append_left leaves pads pad_hash j t.1
      | inr f ↦
          get_or-append_right leaves pads (length leaves) j pad_hash refl (omega (arith, f.1))
          ∙ get_or-pads _ (j - length leaves)
          ∙ sym (get_or_past leaves j pad_hash (omega (arith, f.1)))
    ]

length-padded : (leaves : List Hash32) → length (padded leaves) ≡ 2 ^ height_of (length leaves)
length-padded leaves =
    let room = height_of-room (length leaves) in
    length-append leaves _ ∙ ap (λ n. length leaves + n) (length-replicate _ pad_hash) ∙ omega (arith, room)

pub level_by_level : RootLevelByLevel
level_by_level [] h = absurd (omega arith)
level_by_level (x ∷ xs) h =
    let high = height_of (length (x ∷ xs)) in
    ap (map Full) (paired_times-node (x ∷ xs) (padded (x ∷ xs)) pad_hash pad_hash 0 high high
    (omega arith) (length-padded (x ∷ xs)) (λ j below. get_or-padded (x ∷ xs) j))
