-- A level and the next one up belong to one tree.
use Rattle.std.proofs.Common.{◌≡◌, ◌∙◌, ℕ, zero, suc, ◌+◌, ◌*◌, ◌≤◌, ◌<◌, List, [], ◌∷◌, ◌++◌, length, get_or, inl, inr, Some, arith, sym, ap}
use Rattle.std.proofs.Math.Seq.{get_or-append_seam}
use Rattle.std.proofs.lemmas.List.{get_or_append_left, get_or_default, get_or_past}
use Rattle.std.proofs.lemmas.Bool.Decides.{leb_tells}
use Rattle.std.specs.Prelude.{slice_get}
use Rattle.ql_types.specs.declared.Hash.TheVariants.{Full}
use Rattle.ql_types.specs.declared.Hash32.{Hash32}
use Rattle.hash_model.specs.PairHash.{dot32}
use Rattle.hash_model.specs.Tree.{height_from, height_of, node, root_over}
use Rattle.pad_tree.specs.Level.{IsNextLevel}
use Rattle.pad_tree.proofs.Room.{height_of-half}

-- one node more of the level that a loop makes
pub nodes-more : (pad : Hash32) (below above more : List Hash32) (new right other : Hash32) (n : ℕ) → length above ≡ n
    → more ≡ above ++ new ∷ [] → new ≡ dot32 (get_or below (2 * n) other) right → right ≡ get_or below (2 * n + 1) pad
    → 2 * n < length below → ((k : ℕ) (d : Hash32) → k < n → get_or above k d ≡ node pad below 1 k)
    → (k : ℕ) (d : Hash32) → k < n + 1 → get_or more k d ≡ node pad below 1 k
unfolding node
nodes-more pad below above more new right other n long pushed is second room before k d here =
    elim (leb_tells (suc k) n) [
      | inl t ↦ rw pushed (get_or_append_left above (new ∷ []) d k (omega (arith, t.1)) ∙ before k d t.1)
      | inr f ↦
          let last : k ≡ n = omega (arith, f.1) in
          rw (pushed, last, ← long) (get_or-append_seam above new [] d ∙ rw long
          (is ∙ ap (λ left. dot32 left right) (get_or_default below (2 * n) other pad room)
          ∙ ap (λ r. dot32 (get_or below (2 * n) pad) r) second))
    ]

-- the level that the loop made, past which each node is that of two pads
pub nodes-all : (pad : Hash32) (below above : List Hash32) (n : ℕ) → length above ≡ n → length below ≤ 2 * n
    → ((k : ℕ) (d : Hash32) → k < n → get_or above k d ≡ node pad below 1 k)
    → (place : ℕ) → node (dot32 pad pad) above 0 place ≡ node pad below 1 place
unfolding node
nodes-all pad below above n long all made place =
    let both = dot32 pad pad in
    elim (leb_tells (suc place) n) [
      | inl t ↦ made place both t.1
      | inr f ↦
          get_or_past above place both (omega (arith, f.1))
          ∙ ap (λ left. dot32 left pad) (sym (get_or_past below (2 * place) pad (omega (arith, f.1))))
          ∙ ap (λ right. dot32 (get_or below (2 * place) pad) right) (sym (get_or_past below (2 * place + 1) pad (omega (arith, f.1))))
    ]

-- the tree over the next level has the nodes of the tree, a level lower
pub node-next : (pad : Hash32) (below above : List Hash32) → IsNextLevel pad below above → (level place : ℕ)
    → node (dot32 pad pad) above level place ≡ node pad below (suc level) place
unfolding node
node-next pad below above next zero place = next.nodes place
node-next pad below above next (suc level) place =
    ap (λ left. dot32 left (node (dot32 pad pad) above level (2 * place + 1))) (node-next pad below above next level (2 * place))
    ∙ ap (λ right. dot32 (node pad below (suc level) (2 * place)) right) (node-next pad below above next level (2 * place + 1))

-- so it has the same root
pub root_over-next : (pad : Hash32) (below above : List Hash32) → IsNextLevel pad below above → 2 ≤ length below
    → root_over (dot32 pad pad) above ≡ root_over pad below
root_over-next pad [] above next two = absurd (omega arith)
root_over-next pad (x ∷ xs) [] next two = let e = next.half in absurd (omega (arith, e))
root_over-next pad (x ∷ xs) (y ∷ ys) next two =
    ap Full (node-next pad (x ∷ xs) (y ∷ ys) next (height_of (length (y ∷ ys))) 0
    ∙ ap (λ level. node pad (x ∷ xs) level 0) (height_of-half (length (x ∷ xs)) (length (y ∷ ys)) two next.half))

-- a single leaf is the root
pub root_over-one : (pad x : Hash32) (xs : List Hash32) → length xs ≤ 1 → Some x ≡ slice_get xs 0 → Full x ≡ root_over pad xs
unfolding height_from node
root_over-one pad x [] h e = cc
root_over-one pad x (y ∷ []) h e = cc
root_over-one pad x (y ∷ z ∷ xs) h e = absurd (omega arith)
