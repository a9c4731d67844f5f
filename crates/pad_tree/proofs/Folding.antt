-- A leaf with the hashes of its path comes to the root.
use Rattle.std.proofs.Common.{◌≡◌, ◌∙◌, ℕ, zero, suc, ◌+◌, ◌-◌, ◌*◌, ◌/◌, ◌%◌, ◌^◌, ◌<◌, List, [], ◌∷◌, length, inl, inr, arith, refl, ap}
use Rattle.std.proofs.lemmas.List.{get_or_default}
use Rattle.std.proofs.lemmas.Bool.Decides.{eqb_tells}
use Rattle.ql_types.specs.declared.Hash.TheVariants.{Full}
use Rattle.ql_types.specs.declared.Hash32.{Hash32}
use Rattle.hash_model.specs.PairHash.{dot32}
use Rattle.hash_model.specs.Tree.{node, pad_hash, height_of}
use Rattle.pad_tree.proofs.Room.{height_of-room}
use Rattle.pad_tree.specs.Paths.{siblings, sibling_of, path_of, folded, PathLeadsToRoot}
use Rattle.pad_tree.proofs.Pairs.{dot32-comm}

node-up : (pad : Hash32) (leaves : List Hash32) (level place : ℕ)
    → dot32 (node pad leaves level place) (node pad leaves level (sibling_of place)) ≡ node pad leaves (suc level) (place / 2)
unfolding node
node-up pad leaves level place =
    let below = node pad leaves level in
    elim (eqb_tells (place % 2) 0) [
      | inl even ↦
          let is : place ≡ 2 * (place / 2) = omega (arith, even.1) in
          rw even.0 (ap (λ k. dot32 (below k) (below (k + 1))) is)
      | inr odd ↦
          let is : place ≡ 2 * (place / 2) + 1 = omega (arith, odd.1) in
          let less : place - 1 ≡ 2 * (place / 2) = omega (arith, odd.1) in
          rw odd.0 (ap (λ k. dot32 (below k) (below (place - 1))) is
          ∙ ap (λ k. dot32 (below (2 * (place / 2) + 1)) (below k)) less
          ∙ dot32-comm _ _)
    ]

folded-siblings : (pad : Hash32) (leaves : List Hash32) (level levels top place : ℕ)
    → place < 2 ^ levels → top ≡ level + levels → folded (node pad leaves level place) (siblings pad leaves level levels place) ≡ node pad leaves top 0
unfolding siblings
folded-siblings pad leaves level zero top place small e =
    let here : place ≡ 0 = omega arith in let same : top ≡ level = omega arith in rw (here, same) refl
folded-siblings pad leaves level (suc levels) top place small e =
    ap (λ hash. folded hash (siblings pad leaves (suc level) levels (place / 2))) (node-up pad leaves level place)
    ∙ folded-siblings pad leaves (suc level) levels top (place / 2) (omega arith) (omega arith)

pub path_leads : PathLeadsToRoot
unfolding node
path_leads [] i pad h = absurd (omega arith)
path_leads (x ∷ xs) i pad h =
    ap Full (ap (λ leaf. folded leaf (path_of (x ∷ xs) i)) (get_or_default (x ∷ xs) i pad pad_hash h)
    ∙ folded-siblings pad_hash (x ∷ xs) 0 (height_of (length (x ∷ xs))) (height_of (length (x ∷ xs))) i
    (let room = height_of-room (length (x ∷ xs)) in omega (arith, room)) (omega arith))
