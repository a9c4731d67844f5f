-- The levels of a tree that is made of all its leaves at once, and how many nodes they have.
use Rattle.std.proofs.Common.{◌≡◌, ◌∙◌, ℕ, zero, suc, ◌+◌, ◌-◌, ◌*◌, ◌/◌, ◌^◌, ◌≤◌, ◌<◌, min, List, [], ◌∷◌, ◌++◌, length, take, get_or, inl, inr, arith, sym, ap, subst, length-append}
use Rattle.std.proofs.lemmas.List.{get_or_append_left}
use Rattle.std.proofs.Math.Seq.{get_or-append_seam, take-suc}
use Rattle.std.proofs.lemmas.Bool.Decides.{leb_tells}
use Rattle.ql_types.specs.declared.Hash32.{Hash32}
use Rattle.hash_model.specs.PairHash.{dot32}
use Rattle.hash_model.specs.Tree.{height_of, node, pad_hash}
use Rattle.pad_tree.specs.Growing.{after_steps, leaves_in, level_of, level_over, nodes_above, nodes_up_to, pad_of, IsLevel, IsTower, KeptLevel}
use Rattle.pad_tree.proofs.Room.{height_of-least}
use Rattle.pad_tree.proofs.Growth.{at_most, lowest, next_is_over, no_step, over_root, past_root, two_below}
use Rattle.pad_tree.proofs.Towers.{first_level, no_level}

-- ---- one level over another

pub count_over : (pad : Hash32) (xs : List Hash32) → 2 ≤ length xs → length (level_over pad xs) ≡ (length xs + 1) / 2
count_over pad xs two = (next_is_over pad xs two).half

pub count_none : (pad : Hash32) (xs : List Hash32) → length xs ≤ 1 → length (level_over pad xs) ≡ 0
count_none pad xs one = ap length (over_root pad xs one)

two_under : (pad : Hash32) (xs : List Hash32) → 1 ≤ length (level_over pad xs) → 2 ≤ length xs
two_under pad xs some =
    elim (leb_tells 2 (length xs)) [
      | inl t ↦ t.1
      | inr f ↦ let none = count_none pad xs (omega (arith, f.1)) in absurd (omega (arith, none, some))
    ]

-- one node more of the level above
pub over_more : (pad x : Hash32) (xs made more : List Hash32) (place : ℕ) → place < length (level_over pad xs)
    → made ≡ take place (level_over pad xs) → x ≡ dot32 (get_or xs (2 * place) pad) (get_or xs (2 * place + 1) pad)
    → more ≡ made ++ x ∷ [] → more ≡ take (place + 1) (level_over pad xs)
unfolding node
over_more pad x xs made more place within so_far hashed pushed =
    let above = level_over pad xs in
    let next = next_is_over pad xs (two_under pad xs (omega arith)) in
    let is : x ≡ get_or above place (dot32 pad pad) = hashed ∙ sym (next.nodes place) in
    let one : suc place ≡ place + 1 = omega arith in
    pushed ∙ ap (λ ys. ys ++ x ∷ []) so_far ∙ ap (λ y. take place above ++ y ∷ []) is
    ∙ sym (take-suc above place (dot32 pad pad) within) ∙ ap (λ n. take n above) one

-- ---- each level

abbrev pub Each : List Hash32 → List KeptLevel → Type 0
Each leaves levels = (level : ℕ) (d : KeptLevel) → level < length levels → IsLevel leaves level (get_or levels level d)

pub is_lowest : (leaves : List Hash32) (kept : KeptLevel) (at : ℕ) → at ≡ 0 → kept.nodes ≡ leaves → kept.pad ≡ pad_hash → IsLevel leaves at kept
unfolding pad_of
is_lowest leaves kept at e nodes pad =
    subst (λ (n : ℕ). IsLevel leaves n kept) (sym e) (record { nodes = nodes ∙ sym (lowest leaves); pad = pad })

pub is_above : (leaves : List Hash32) (at more : ℕ) (low kept : KeptLevel) → more ≡ at + 1 → IsLevel leaves at low
    → kept.nodes ≡ level_over low.pad low.nodes → kept.pad ≡ dot32 low.pad low.pad → IsLevel leaves more kept
unfolding level_of pad_of
is_above leaves at more low kept e is nodes pad =
    let next : suc at ≡ more = omega arith in
    subst (λ (n : ℕ). IsLevel leaves n kept) next (record {
      nodes = nodes ∙ ap (λ p. level_over p low.nodes) is.pad ∙ ap (λ xs. level_over (pad_of at) xs) is.nodes;
      pad = pad ∙ ap (λ p. dot32 p p) is.pad;
    })

pub each_push : (leaves : List Hash32) (levels more : List KeptLevel) (kept : KeptLevel) → more ≡ levels ++ kept ∷ []
    → IsLevel leaves (length levels) kept → Each leaves levels → Each leaves more
each_push leaves levels more kept is last before level d h =
    let long : length more ≡ length levels + 1 = ap length is ∙ length-append levels (kept ∷ []) in
    elim (leb_tells (suc level) (length levels)) [
      | inl t ↦ rw is (subst (λ (k : KeptLevel). IsLevel leaves level k) (sym (get_or_append_left levels (kept ∷ []) d level (omega (arith, t.1)))) (before level d t.1))
      | inr f ↦
          let top : level ≡ length levels = omega (arith, f.1, h, long) in
          rw (is, top) (subst (λ (k : KeptLevel). IsLevel leaves (length levels) k) (sym (get_or-append_seam levels kept [] d)) last)
    ]

pub made_leaves : (leaves : List Hash32) (levels : List KeptLevel) → 0 < length levels → Each leaves levels → leaves_in levels ≡ leaves
made_leaves leaves levels some each = first_level levels no_level some ∙ (each 0 no_level some).nodes ∙ lowest leaves

pub made_tower : (leaves : List Hash32) (levels : List KeptLevel) → length levels ≡ 33 → length leaves ≤ 2 ^ 32 → Each leaves levels → IsTower levels
made_tower leaves levels long few each =
    let is = made_leaves leaves levels (omega (arith, long)) each in
    record {
      long = long;
      few = subst (λ (xs : List Hash32). length xs ≤ 2 ^ 32) (sym is) few;
      each = λ level d h. subst (λ (xs : List Hash32). IsLevel xs level (get_or levels level d)) (sym is) (each level d (omega (arith, h, long)));
    }

-- ---- how many nodes

after_both : (m n taken : ℕ) → after_steps n (after_steps m taken) ≡ after_steps (m + n) taken
unfolding after_steps
after_both m zero taken = let none : m ≡ m + 0 = omega arith in ap (λ k. after_steps k taken) none
after_both m (suc n) taken =
    let more : suc (m + n) ≡ m + suc n = omega arith in
    ap (λ k. min (k + 1) (2 ^ 64 - 1)) (after_both m n taken) ∙ ap (λ k. after_steps k taken) more

pub counted_first : (leaves : List Hash32) (at taken : ℕ) → at ≡ 0 → taken ≡ after_steps (nodes_up_to leaves at) taken
unfolding nodes_up_to
counted_first leaves at taken e = no_step taken ∙ ap (λ n. after_steps (nodes_up_to leaves n) taken) (sym e)

-- the steps of one level more
pub counted_more : (leaves : List Hash32) (at more taken was now : ℕ) (kept : KeptLevel) → more ≡ at + 1 → IsLevel leaves more kept
    → was ≡ after_steps (nodes_up_to leaves at) taken → now ≡ after_steps (length kept.nodes) was
    → now ≡ after_steps (nodes_up_to leaves more) taken
unfolding nodes_up_to
counted_more leaves at more taken was now kept e is before counted =
    let next : more ≡ suc at = omega arith in
    let long : length kept.nodes ≡ length (level_of leaves (suc at)) = ap length (is.nodes ∙ ap (λ n. level_of leaves n) next) in
    counted ∙ ap (λ n. after_steps n was) long ∙ ap (λ k. after_steps (length (level_of leaves (suc at))) k) before
    ∙ after_both (nodes_up_to leaves at) (length (level_of leaves (suc at))) taken
    ∙ ap (λ n. after_steps (nodes_up_to leaves n) taken) (sym next)

-- each level up to the root has half the nodes below it and at most one half more
nodes_below : (leaves : List Hash32) (level : ℕ) → level ≤ height_of (length leaves)
    → nodes_up_to leaves level + length (level_of leaves level) ≤ length leaves + level
unfolding level_of nodes_up_to
nodes_below leaves zero within = omega arith
nodes_below leaves (suc level) within =
    let before = nodes_below leaves level (omega arith) in
    let one : 1 ≤ length leaves = elim (leb_tells 1 (length leaves)) [
      | inl t ↦ t.1
      | inr f ↦ let least = height_of-least (length leaves) 0 (omega (arith, f.1)) in absurd (omega (arith, least, within))
    ] in
    let half = count_over (pad_of level) (level_of leaves level) (two_below leaves level one (omega arith)) in
    omega (arith, before, half)

nodes_most : (leaves : List Hash32) (level : ℕ) → nodes_up_to leaves level ≤ length leaves + height_of (length leaves)
unfolding nodes_up_to
nodes_most leaves zero = omega arith
nodes_most leaves (suc level) =
    elim (leb_tells (suc level) (height_of (length leaves))) [
      | inl t ↦ let all = nodes_below leaves (suc level) t.1 in omega (arith, all, t.1)
      | inr f ↦
          let none : length (level_of leaves (suc level)) ≡ 0 = ap length (past_root leaves (suc level) f.1) in
          let before = nodes_most leaves level in
          omega (arith, none, before)
    ]

pub few_nodes : (leaves : List Hash32) (taken now : ℕ) → now ≡ after_steps (nodes_above leaves) taken
    → now ≤ taken + (length leaves + height_of (length leaves))
few_nodes leaves taken now is =
    let most = at_most (nodes_above leaves) taken in
    let few = nodes_most leaves 32 in
    omega (arith, is, most, few)
