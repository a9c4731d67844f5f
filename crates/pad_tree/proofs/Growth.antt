-- The levels of a tree, and what one leaf more changes in them.
use Rattle.std.proofs.Common.{◌≡◌, ◌∙◌, ℕ, zero, suc, ◌+◌, ◌-◌, ◌*◌, ◌/◌, ◌^◌, ◌≤◌, ◌<◌, min, List, [], ◌∷◌, ◌++◌, length, take, drop, get_or, append-nil, Some, inl, inr, arith, refl, sym, ap, subst, length-append}
use Rattle.std.proofs.lemmas.List.{take-append-drop}
use Rattle.std.proofs.lemmas.Bool.Decides.{leb_tells}
use Rattle.std.specs.Prelude.{slice_get}
use Rattle.ql_types.specs.declared.Hash.TheVariants.{Full}
use Rattle.ql_types.specs.declared.Hash32.{Hash32}
use Rattle.hash_model.specs.PairHash.{dot32}
use Rattle.hash_model.specs.Tree.{height_of, node, root_of, root_over}
use Rattle.pad_tree.specs.Level.{IsNextLevel}
use Rattle.pad_tree.specs.Paths.{path_of, path_over, sibling_of}
use Rattle.pad_tree.specs.Growing.{after_steps, nodes_over, level_over, level_of, pad_of}
use Rattle.pad_tree.proofs.Room.{height_of-half, height_of-least}
use Rattle.pad_tree.proofs.Next.{root_over-next, root_over-one}
use Rattle.pad_tree.proofs.PathLevels.{path_over-more, path_over-one}

pub take_none : (xs : List Hash32) → take 0 xs ≡ []
take_none [] = refl
take_none (x ∷ xs) = refl

-- ---- one level over another

length-nodes_over : (pad : Hash32) (xs : List Hash32) → length (nodes_over pad xs) ≡ (length xs + 1) / 2
unfolding nodes_over
length-nodes_over pad [] = omega arith
length-nodes_over pad (x ∷ []) = omega arith
length-nodes_over pad (x ∷ y ∷ xs) = let more = length-nodes_over pad xs in omega (arith, more)

get_or-nodes_over : (pad : Hash32) (xs : List Hash32) (j : ℕ)
    → get_or (nodes_over pad xs) j (dot32 pad pad) ≡ dot32 (get_or xs (2 * j) pad) (get_or xs (2 * j + 1) pad)
unfolding nodes_over
get_or-nodes_over pad [] j = refl
get_or-nodes_over pad (x ∷ []) zero = refl
get_or-nodes_over pad (x ∷ []) (suc j) =
    let left : 2 * suc j ≡ suc (suc (2 * j)) = omega arith in
    let right : 2 * suc j + 1 ≡ suc (suc (2 * j + 1)) = omega arith in
    rw (right, left) refl
get_or-nodes_over pad (x ∷ y ∷ xs) zero = refl
get_or-nodes_over pad (x ∷ y ∷ xs) (suc j) =
    let left : 2 * suc j ≡ suc (suc (2 * j)) = omega arith in
    let right : 2 * suc j + 1 ≡ suc (suc (2 * j + 1)) = omega arith in
    rw (right, left) (get_or-nodes_over pad xs j)

pub next_is_over : (pad : Hash32) (xs : List Hash32) → 2 ≤ length xs → IsNextLevel pad xs (level_over pad xs)
unfolding node nodes_over
next_is_over pad [] two = absurd (omega arith)
next_is_over pad (x ∷ []) two = absurd (omega arith)
next_is_over pad (x ∷ y ∷ xs) two = record {
  half = length-nodes_over pad (x ∷ y ∷ xs);
  nodes = λ place. get_or-nodes_over pad (x ∷ y ∷ xs) place;
}

pub over_root : (pad : Hash32) (xs : List Hash32) → length xs ≤ 1 → level_over pad xs ≡ []
over_root pad [] one = refl
over_root pad (x ∷ []) one = refl
over_root pad (x ∷ y ∷ xs) one = absurd (omega arith)

-- ---- how many levels have nodes

low : (n : ℕ) → n ≤ 1 → height_of n ≡ 0
low n one = omega (arith, height_of-least n 0 (omega arith))

high : (n : ℕ) → 2 ≤ n → 1 ≤ height_of n
high n two = let half = height_of-half n ((n + 1) / 2) two refl in omega (arith, half)

two_nodes : (n level top : ℕ) → height_of n + level ≡ top → level < top → 2 ≤ n
two_nodes n level top e below =
    elim (leb_tells 2 n) [ inl t ↦ t.1 | inr f ↦ let none = low n (omega (arith, f.1)) in absurd (omega (arith, none)) ]

one_node : (n : ℕ) → height_of n ≡ 0 → n ≤ 1
one_node n none =
    elim (leb_tells 2 n) [ inl t ↦ let some = high n t.1 in absurd (omega (arith, some)) | inr f ↦ omega (arith, f.1) ]

-- a level at most as high as the root has nodes, and the rest of the height stands above it
pub record IsBelow (leaves : List Hash32) (level : ℕ) : Type 0 where
  pub some : 1 ≤ length (level_of leaves level)
  pub rest : height_of (length (level_of leaves level)) + level ≡ height_of (length leaves)

pub is_below : (leaves : List Hash32) (level : ℕ) → 1 ≤ length leaves → level ≤ height_of (length leaves) → IsBelow leaves level
unfolding level_of
is_below leaves zero one within = record { some = one; rest = omega arith }
is_below leaves (suc level) one within =
    let below = is_below leaves level one (omega arith) in
    let count = length (level_of leaves level) in
    let two : 2 ≤ count = two_nodes count level (height_of (length leaves)) below.rest (omega arith) in
    let next = next_is_over (pad_of level) (level_of leaves level) two in
    let over = length (level_over (pad_of level) (level_of leaves level)) in
    let lower = height_of-half count over two next.half in
    let half = next.half in
    let rest = below.rest in
    record { some = omega (arith, half, two); rest = omega (arith, lower, rest) }

-- a level below the root has two nodes at least
pub two_below : (leaves : List Hash32) (level : ℕ) → 1 ≤ length leaves → level < height_of (length leaves) → 2 ≤ length (level_of leaves level)
two_below leaves level one below =
    two_nodes (length (level_of leaves level)) level (height_of (length leaves)) (is_below leaves level one (omega arith)).rest below

pub no_leaves : (level : ℕ) → level_of [] level ≡ []
unfolding level_of
no_leaves zero = refl
no_leaves (suc level) = ap (λ xs. level_over (pad_of level) xs) (no_leaves level)

-- a level above the root has none
pub past_root : (leaves : List Hash32) (level : ℕ) → height_of (length leaves) < level → level_of leaves level ≡ []
unfolding level_of
past_root leaves zero past = absurd (omega arith)
past_root [] (suc level) past = no_leaves (suc level)
past_root (x ∷ xs) (suc level) past =
    let leaves = x ∷ xs in
    elim (leb_tells (suc (height_of (length leaves))) level) [
      | inl t ↦ ap (λ ys. level_over (pad_of level) ys) (past_root leaves level t.1)
      | inr f ↦
          let top = (is_below leaves level (omega arith) (omega (arith, f.1))).rest in
          let count = length (level_of leaves level) in
          over_root (pad_of level) (level_of leaves level) (one_node count (omega (arith, top, f.1, past)))
    ]

-- ---- the root and the paths

root_above : (leaves : List Hash32) (level : ℕ) → 1 ≤ length leaves → level ≤ height_of (length leaves)
    → root_over (pad_of level) (level_of leaves level) ≡ root_of leaves
unfolding level_of pad_of
root_above leaves zero one within = refl
root_above leaves (suc level) one within =
    let xs = level_of leaves level in
    root_over-next (pad_of level) xs (level_over (pad_of level) xs) (next_is_over (pad_of level) xs (two_below leaves level one (omega arith)))
    (two_below leaves level one (omega arith)) ∙ root_above leaves level one (omega arith)

-- the lowest level is the leaves
pub lowest : (leaves : List Hash32) → level_of leaves 0 ≡ leaves
unfolding level_of
lowest leaves = refl

first_node : (xs : List Hash32) (d : Hash32) → 1 ≤ length xs → Some (get_or xs 0 d) ≡ slice_get xs 0
first_node [] d some = absurd (omega arith)
first_node (x ∷ xs) d some = refl

-- the one node of the highest level is the root
pub root_is_top : (leaves : List Hash32) (top : ℕ) (d : Hash32) → 1 ≤ length leaves → top ≡ height_of (length leaves)
    → Full (get_or (level_of leaves top) 0 d) ≡ root_of leaves
root_is_top leaves top d one e =
    let xs = level_of leaves top in
    let is : IsBelow leaves top = is_below leaves top one (omega arith) in
    let some = is.some in
    let rest = is.rest in
    root_over-one (pad_of top) (get_or xs 0 d) xs (one_node (length xs) (omega (arith, rest, e))) (first_node xs d some)
    ∙ root_above leaves top one (omega arith)

-- a level has no more nodes than there are leaves
over_short : (pad : Hash32) (xs : List Hash32) → length (level_over pad xs) ≤ length xs
over_short pad [] = omega arith
over_short pad (x ∷ []) = omega arith
over_short pad (x ∷ y ∷ xs) = let rest = length-nodes_over pad xs in omega (arith, rest)

pub level_short : (leaves : List Hash32) (level : ℕ) → length (level_of leaves level) ≤ length leaves
unfolding level_of
level_short leaves zero = omega arith
level_short leaves (suc level) =
    let over = over_short (pad_of level) (level_of leaves level) in
    let below = level_short leaves level in
    omega (arith, over, below)

-- ---- paths, level by level

pub path_first : (leaves made : List Hash32) (i : ℕ) → made ≡ [] → made ++ path_over (pad_of 0) (level_of leaves 0) i ≡ path_of leaves i
unfolding level_of pad_of
path_first leaves made i none = ap (λ xs. xs ++ path_of leaves i) none

pub path_step : (leaves made more : List Hash32) (x : Hash32) (level place : ℕ) → 1 ≤ length leaves → level < height_of (length leaves)
    → more ≡ made ++ x ∷ [] → x ≡ get_or (level_of leaves level) (sibling_of place) (pad_of level)
    → more ++ path_over (pad_of (level + 1)) (level_of leaves (level + 1)) (place / 2) ≡ made ++ path_over (pad_of level) (level_of leaves level) place
unfolding level_of pad_of
path_step leaves made more x level place one below pushed is =
    let next : level + 1 ≡ suc level = omega arith in
    let pad = pad_of level in
    let xs = level_of leaves level in
    let two = two_below leaves level one below in
    ap (λ n. more ++ path_over (pad_of n) (level_of leaves n) (place / 2)) next
    ∙ path_over-more pad x xs (level_over pad xs) made more place (next_is_over pad xs two) two pushed is

pub place_step : (leaves : List Hash32) (level place : ℕ) → 1 ≤ length leaves → level < height_of (length leaves) → place < length (level_of leaves level)
    → place / 2 < length (level_of leaves (level + 1))
unfolding level_of
place_step leaves level place one below within =
    let next : level + 1 ≡ suc level = omega arith in
    let half = (next_is_over (pad_of level) (level_of leaves level) (two_below leaves level one below)).half in
    subst (λ (n : ℕ). place / 2 < length (level_of leaves n)) (sym next) (omega (arith, half, within))

pub path_last : (leaves made : List Hash32) (top place i : ℕ) → 1 ≤ length leaves → top ≡ height_of (length leaves)
    → made ++ path_over (pad_of top) (level_of leaves top) place ≡ path_of leaves i → made ≡ path_of leaves i
path_last leaves made top place i one e so_far =
    let rest = (is_below leaves top one (omega (arith, e))).rest in
    sym (append-nil made)
    ∙ ap (λ xs. made ++ xs) (sym (path_over-one (pad_of top) (level_of leaves top) place (one_node (length (level_of leaves top)) (omega (arith, rest, e)))))
    ∙ so_far

-- ---- a counter

pub step_more : (n taken was now : ℕ) → was ≡ after_steps n taken → now ≡ min (was + 1) (2 ^ 64 - 1) → now ≡ after_steps (n + 1) taken
unfolding after_steps
step_more n taken was now h is =
    let next : n + 1 ≡ suc n = omega arith in
    is ∙ ap (λ m. min (m + 1) (2 ^ 64 - 1)) h ∙ sym (ap (λ m. after_steps m taken) next)

pub no_step : (taken : ℕ) → taken ≡ after_steps 0 taken
unfolding after_steps
no_step taken = refl

pub at_most : (n taken : ℕ) → after_steps n taken ≤ taken + n
unfolding after_steps
at_most zero taken = omega arith
at_most (suc n) taken = let before = at_most n taken in omega (arith, before)

pub few_steps : (n taken now : ℕ) → now ≡ after_steps n taken → now ≤ taken + (n + 2)
few_steps n taken now is = let most = at_most n taken in omega (arith, is, most)

-- ---- one leaf more

-- the last node over nodes, of which the last is this one
nodes_over-last : (pad : Hash32) (front rest : List Hash32) (x : Hash32) (m : ℕ) → m ≡ length front / 2
    → nodes_over pad (front ++ x ∷ []) ≡ take m (nodes_over pad (front ++ rest))
    ++ dot32 (get_or (front ++ x ∷ []) (2 * m) pad) (get_or (front ++ x ∷ []) (2 * m + 1) pad) ∷ []
unfolding nodes_over
nodes_over-last pad [] rest x m e =
    let none : m ≡ 0 = omega arith in
    rw none (ap (λ xs. xs ++ dot32 x pad ∷ []) (sym (take_none (nodes_over pad rest))))
nodes_over-last pad (a ∷ []) rest x m e =
    let none : m ≡ 0 = omega arith in
    rw none (ap (λ xs. xs ++ dot32 a x ∷ []) (sym (take_none (nodes_over pad (a ∷ rest)))))
nodes_over-last pad (a ∷ b ∷ front) rest x zero e = absurd (omega arith)
nodes_over-last pad (a ∷ b ∷ front) rest x (suc m) e =
    let left : 2 * suc m ≡ suc (suc (2 * m)) = omega arith in
    let right : 2 * suc m + 1 ≡ suc (suc (2 * m + 1)) = omega arith in
    rw (right, left) (ap (λ xs. dot32 a b ∷ xs) (nodes_over-last pad front rest x m (omega arith)))

level_over-last : (pad : Hash32) (front rest : List Hash32) (x : Hash32) (m : ℕ) → 1 ≤ length front → m ≡ length front / 2
    → level_over pad (front ++ x ∷ []) ≡ take m (level_over pad (front ++ rest))
    ++ dot32 (get_or (front ++ x ∷ []) (2 * m) pad) (get_or (front ++ x ∷ []) (2 * m + 1) pad) ∷ []
unfolding nodes_over
level_over-last pad [] rest x m some e = absurd (omega arith)
level_over-last pad (a ∷ []) rest x m some e =
    let none : m ≡ 0 = omega arith in
    rw none (ap (λ xs. xs ++ dot32 a x ∷ []) (sym (take_none (level_over pad (a ∷ rest)))))
level_over-last pad (a ∷ b ∷ front) rest x m some e = nodes_over-last pad (a ∷ b ∷ front) rest x m e

-- the nodes of a level and those of the same level with one leaf more: the last one is new
record IsGrown (old new : List Hash32) : Type 0 where
  pub front : List Hash32
  pub rest : List Hash32
  pub last : Hash32
  pub before : old ≡ front ++ rest
  pub after : new ≡ front ++ last ∷ []

long_grown : (old new : List Hash32) (g : IsGrown old new) → length new ≡ length g.front + 1
long_grown old new g = ap length g.after ∙ length-append g.front (g.last ∷ [])

over_grown : (pad : Hash32) (old new : List Hash32) (place : ℕ) → (g : IsGrown old new) → 2 ≤ length new → place ≡ (length new - 1) / 2
    → level_over pad new ≡ take place (level_over pad old) ++ dot32 (get_or new (2 * place) pad) (get_or new (2 * place + 1) pad) ∷ []
over_grown pad old new place g two e =
    let long = long_grown old new g in
    rw (g.before, g.after) (level_over-last pad g.front g.rest g.last place (omega (arith, long)) (omega (arith, long)))

is_grown : (leaves : List Hash32) (leaf : Hash32) (level : ℕ) → level ≤ height_of (length (leaves ++ leaf ∷ []))
    → IsGrown (level_of leaves level) (level_of (leaves ++ leaf ∷ []) level)
unfolding level_of
is_grown leaves leaf zero within = record { front = leaves; rest = []; last = leaf; before = sym (append-nil leaves); after = refl }
is_grown leaves leaf (suc level) within =
    let pad = pad_of level in
    let old = level_of leaves level in
    let new = level_of (leaves ++ leaf ∷ []) level in
    let long = length-append leaves (leaf ∷ []) in
    let two : 2 ≤ length new = two_below (leaves ++ leaf ∷ []) level (omega (arith, long)) (omega arith) in
    let place = (length new - 1) / 2 in
    let below = is_grown leaves leaf level (omega arith) in
    record {
      front = take place (level_over pad old);
      rest = drop place (level_over pad old);
      last = dot32 (get_or new (2 * place) pad) (get_or new (2 * place + 1) pad);
      before = sym (take-append-drop place (level_over pad old));
      after = over_grown pad old new place below two refl;
    }

-- so each level above the leaves keeps the nodes before the last one, which is hashed anew
pub grown : (leaves : List Hash32) (leaf : Hash32) (level place : ℕ) → level < height_of (length (leaves ++ leaf ∷ []))
    → place ≡ (length (level_of (leaves ++ leaf ∷ []) level) - 1) / 2
    → level_of (leaves ++ leaf ∷ []) (suc level) ≡ take place (level_of leaves (suc level))
    ++ dot32 (get_or (level_of (leaves ++ leaf ∷ []) level) (2 * place) (pad_of level))
    (get_or (level_of (leaves ++ leaf ∷ []) level) (2 * place + 1) (pad_of level)) ∷ []
unfolding level_of
grown leaves leaf level place below e =
    let long = length-append leaves (leaf ∷ []) in
    over_grown (pad_of level) (level_of leaves level) (level_of (leaves ++ leaf ∷ []) level) place
    (is_grown leaves leaf level (omega arith)) (two_below (leaves ++ leaf ∷ []) level (omega (arith, long)) below) e
