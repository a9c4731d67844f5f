-- The paths in a level and in the next one up.
use Rattle.std.proofs.Common.{◌≡◌, ◌∙◌, ℕ, zero, suc, ◌/◌, ◌≤◌, List, [], ◌∷◌, ◌++◌, length, get_or, append_assoc, arith, refl, sym, ap}
use Rattle.ql_types.specs.declared.Hash32.{Hash32}
use Rattle.hash_model.specs.PairHash.{dot32}
use Rattle.hash_model.specs.Tree.{height_from, node, height_of, pad_hash}
use Rattle.pad_tree.specs.Level.{IsNextLevel}
use Rattle.pad_tree.proofs.Next.{node-next}
use Rattle.pad_tree.proofs.Room.{height_of-half}
use Rattle.pad_tree.specs.Paths.{siblings, path_over, path_of, sibling_of}

siblings-next : (pad : Hash32) (below above : List Hash32) → IsNextLevel pad below above → (level levels place : ℕ)
    → siblings (dot32 pad pad) above level levels place ≡ siblings pad below (suc level) levels place
unfolding siblings
siblings-next pad below above next level zero place = refl
siblings-next pad below above next level (suc levels) place =
    ap (λ first. first ∷ siblings (dot32 pad pad) above (suc level) levels (place / 2)) (node-next pad below above next level (sibling_of place))
    ∙ ap (λ rest. node pad below (suc level) (sibling_of place) ∷ rest) (siblings-next pad below above next (suc level) levels (place / 2))

-- a path is the sibling and then the path in the next level
path_over-next : (pad : Hash32) (below above : List Hash32) → IsNextLevel pad below above → 2 ≤ length below → (i : ℕ)
    → path_over pad below i ≡ node pad below 0 (sibling_of i) ∷ path_over (dot32 pad pad) above (i / 2)
unfolding siblings
path_over-next pad below above next two i =
    ap (λ levels. siblings pad below 0 levels i) (sym (height_of-half (length below) (length above) two next.half))
    ∙ ap (λ rest. node pad below 0 (sibling_of i) ∷ rest) (sym (siblings-next pad below above next 0 (height_of (length above)) (i / 2)))

-- a single leaf has an empty path
pub path_over-one : (pad : Hash32) (leaves : List Hash32) (i : ℕ) → length leaves ≤ 1 → path_over pad leaves i ≡ []
unfolding height_from siblings
path_over-one pad [] i h = refl
path_over-one pad (x ∷ []) i h = refl
path_over-one pad (x ∷ y ∷ xs) i h = absurd (omega arith)

-- the path that a loop has made so far, with one more sibling
pub path_over-more : (pad x : Hash32) (below above made more : List Hash32) (place : ℕ) → IsNextLevel pad below above
    → 2 ≤ length below → more ≡ made ++ x ∷ [] → x ≡ get_or below (sibling_of place) pad
    → more ++ path_over (dot32 pad pad) above (place / 2) ≡ made ++ path_over pad below place
unfolding node
path_over-more pad x below above made more place next two new is =
    rw (new, path_over-next pad below above next two place, append_assoc)
    (ap (λ first. made ++ (first ∷ path_over (dot32 pad pad) above (place / 2))) is)

-- a path has a sibling for each level
length-siblings : (pad : Hash32) (leaves : List Hash32) (level levels place : ℕ) → length (siblings pad leaves level levels place) ≡ levels
unfolding siblings
length-siblings pad leaves level zero place = refl
length-siblings pad leaves level (suc levels) place = ap suc (length-siblings pad leaves (suc level) levels (place / 2))

pub length-path_of : (leaves : List Hash32) (i : ℕ) → length (path_of leaves i) ≡ height_of (length leaves)
length-path_of leaves i = length-siblings pad_hash leaves 0 (height_of (length leaves)) i
