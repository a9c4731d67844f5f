-- The levels of a tree as they are kept, while one leaf more makes its way up.
use Rattle.std.proofs.Common.{◌≡◌, ◌≢◌, ◌∙◌, ℕ, zero, suc, ◌+◌, ◌-◌, ◌*◌, ◌/◌, ◌≤◌, ◌<◌, ◌^◌, List, [], ◌∷◌, ◌++◌, length, take, get_or, set, inl, inr, arith, refl, sym, ap, subst, length-append}
use Rattle.std.proofs.lemmas.List.{get_or-set_same, get_or-set_other, get_or_default, length-set}
use Rattle.std.proofs.Math.Seq.{take-append_seam}
use Rattle.std.proofs.lemmas.Bool.Decides.{eqb_tells, leb_tells}
use Rattle.ql_types.specs.declared.Hash32.{Hash32}
use Rattle.hash_model.specs.PairHash.{dot32}
use Rattle.hash_model.specs.Tree.{height_of}
use Rattle.pad_tree.specs.Growing.{HasRoom, IsLevel, IsTower, KeptLevel, SameNodes, leaves_in, level_of, pad_of}
use Rattle.pad_tree.proofs.Room.{height_of-least, height_of-room}
use Rattle.pad_tree.proofs.Growth.{grown, lowest, past_root}

-- the lowest level is the first one
pub first_level : (levels : List KeptLevel) (d : KeptLevel) → 0 < length levels → leaves_in levels ≡ (get_or levels 0 d).nodes
first_level [] d h = absurd (omega arith)
first_level (lowest ∷ above) d h = refl

pub count_is : (levels : List KeptLevel) (kept : KeptLevel) (count : ℕ) → IsTower levels → kept ≡ get_or levels 0 kept → count ≡ length kept.nodes
    → count ≡ length (leaves_in levels)
count_is levels kept count tower is counts =
    let long = tower.long in
    counts ∙ ap (λ (k : KeptLevel). length k.nodes) is ∙ ap length (sym (first_level levels kept (omega (arith, long))))

pub count_first : (levels : List KeptLevel) (d : KeptLevel) (count : ℕ) → IsTower levels → count ≡ length (get_or levels 0 d).nodes
    → count ≡ length (leaves_in levels)
count_first levels d count tower counts =
    let long = tower.long in
    counts ∙ ap length (sym (first_level levels d (omega (arith, long))))

pub level_is : (levels : List KeptLevel) (kept : KeptLevel) (level : ℕ) → IsTower levels → kept ≡ get_or levels level kept → level < 33
    → IsLevel (leaves_in levels) level kept
level_is levels kept level tower is h = subst (λ (k : KeptLevel). IsLevel (leaves_in levels) level k) (sym is) (tower.each level kept h)

-- a tree of at most 2^32 leaves is at most 32 high
pub at_most_32 : (n : ℕ) → n ≤ 2 ^ 32 → height_of n ≤ 32
at_most_32 n few = height_of-least n 32 few

-- ---- with the same nodes

pub same_refl : (levels : List KeptLevel) → SameNodes levels levels
same_refl levels = record { long = refl; nodes = λ level d h. refl; pads = λ level d h. refl }

same_leaves : (a b : List KeptLevel) (d : KeptLevel) → SameNodes a b → 0 < length a → leaves_in a ≡ leaves_in b
same_leaves a b d same h =
    let long = same.long in
    first_level a d h ∙ same.nodes 0 d h ∙ sym (first_level b d (omega (arith, long)))

pub same_level : (leaves : List Hash32) (level : ℕ) (a b : KeptLevel) → a.nodes ≡ b.nodes → a.pad ≡ b.pad → IsLevel leaves level b → IsLevel leaves level a
same_level leaves level a b nodes pad is = record { nodes = nodes ∙ is.nodes; pad = pad ∙ is.pad }

pub no_level : KeptLevel
no_level = record { nodes = []; pad = record { bytes = [] }; spare = 0 }

pub leaves_stay : (a b : List KeptLevel) → SameNodes a b → 0 < length a → leaves_in a ≡ leaves_in b
leaves_stay a b same h = same_leaves a b no_level same h

pub tower_stays : (a b : List KeptLevel) → SameNodes a b → IsTower b → IsTower a
tower_stays a b same tower =
    let long : length a ≡ 33 = same.long ∙ tower.long in
    let leaves : leaves_in a ≡ leaves_in b = leaves_stay a b same (omega (arith, long)) in
    record {
      long = long;
      few = subst (λ (xs : List Hash32). length xs ≤ 2 ^ 32) (sym leaves) tower.few;
      each = λ level d h. subst (λ (xs : List Hash32). IsLevel xs level (get_or a level d)) (sym leaves)
          (same_level (leaves_in b) level (get_or a level d) (get_or b level d) (same.nodes level d (omega (arith, h, long))) (same.pads level d (omega (arith, h, long)))
          (tower.each level d h));
    }

-- ---- one level is changed

-- what holds of the changed level and of each other one
pub each_set : (P : ℕ → KeptLevel → Type 0) (levels : List KeptLevel) (at : ℕ) (kept : KeptLevel) → at < length levels → P at kept
    → (level : ℕ) (d : KeptLevel) → (level ≢ at → P level (get_or levels level d)) → P level (get_or (set levels at kept) level d)
each_set P levels at kept within here level d there =
    elim (eqb_tells level at) [
      | inl same ↦
          let changed : P at (get_or (set levels at kept) at d) =
          subst (λ (k : KeptLevel). P at k) (sym (get_or-set_same levels at kept d within)) here in
          subst (λ (n : ℕ). P n (get_or (set levels at kept) n d)) (sym same.1) changed
      | inr other ↦ subst (λ (k : KeptLevel). P level k) (sym (get_or-set_other levels at level kept d other.1)) (there other.1)
    ]

pub same_set : (levels before : List KeptLevel) (at : ℕ) (kept e : KeptLevel) → SameNodes levels before → at < length levels
    → kept.nodes ≡ (get_or levels at e).nodes → kept.pad ≡ (get_or levels at e).pad → SameNodes (set levels at kept) before
same_set levels before at kept e same within nodes pad =
    let long = length-set levels at kept in
    record {
      long = long ∙ same.long;
      nodes = λ level d h. each_set (λ n k. k.nodes ≡ (get_or before n d).nodes) levels at kept within
          (nodes ∙ ap (λ (k : KeptLevel). k.nodes) (get_or_default levels at e d within) ∙ same.nodes at d within)
          level d (λ other. same.nodes level d (omega (arith, h, long)));
      pads = λ level d h. each_set (λ n k. k.pad ≡ (get_or before n d).pad) levels at kept within
          (pad ∙ ap (λ (k : KeptLevel). k.pad) (get_or_default levels at e d within) ∙ same.pads at d within)
          level d (λ other. same.pads level d (omega (arith, h, long)));
    }

pub room_set : (levels : List KeptLevel) (at : ℕ) (kept : KeptLevel) → at < length levels → 1 ≤ kept.spare
    → ((level : ℕ) (d : KeptLevel) → level < at → 1 ≤ (get_or levels level d).spare)
    → (level : ℕ) (d : KeptLevel) → level < at + 1 → 1 ≤ (get_or (set levels at kept) level d).spare
room_set levels at kept within here before level d h =
    each_set (λ n k. 1 ≤ k.spare) levels at kept within here level d (λ other. before level d (omega (arith, h, other)))

-- ---- one leaf more makes its way up

-- the levels up to this one have the leaf below them, and the others are as before
pub record IsRaised (before : List KeptLevel) (leaf : Hash32) (at : ℕ) (levels : List KeptLevel) : Type 0 where
  pub long : length levels ≡ 33
  pub raised : (level : ℕ) (d : KeptLevel) → level ≤ at → level < 33 → IsLevel (leaves_in before ++ leaf ∷ []) level (get_or levels level d)
  pub others : (level : ℕ) (d : KeptLevel) → at < level → level < 33 → IsLevel (leaves_in before) level (get_or levels level d)
  pub room : (level : ℕ) (d : KeptLevel) → at < level → level < 33 → 1 ≤ (get_or levels level d).spare

pub take_all : (xs : List Hash32) (n : ℕ) → n ≡ length xs → take n xs ≡ xs
take_all [] zero e = refl
take_all [] (suc n) e = refl
take_all (x ∷ xs) zero e = absurd (omega arith)
take_all (x ∷ xs) (suc n) e = ap (λ ys. x ∷ ys) (take_all xs n (omega arith))

pub raised_first : (before : List KeptLevel) (leaf : Hash32) (count : ℕ) (kept e : KeptLevel) → IsTower before → HasRoom before
    → count ≡ length (leaves_in before) → kept.nodes ≡ take count (get_or before 0 e).nodes ++ leaf ∷ [] → kept.pad ≡ (get_or before 0 e).pad
    → IsRaised before leaf 0 (set before 0 kept)
raised_first before leaf count kept e tower room counts nodes pad =
    let long = tower.long in
    let within : 0 < length before = omega (arith, long) in
    let was = tower.each 0 e (omega arith) in
    let leaves : leaves_in before ≡ (get_or before 0 e).nodes = first_level before e within in
    let new : kept.nodes ≡ leaves_in before ++ leaf ∷ [] =
    nodes ∙ ap (λ xs. xs ++ leaf ∷ []) (take_all (get_or before 0 e).nodes count (counts ∙ ap length leaves) ∙ sym leaves) in
    record {
      long = length-set before 0 kept ∙ long;
      raised = λ level d low within_33.
          let first : level ≡ 0 = omega (arith, low) in
          each_set (λ n k. n ≡ 0 → IsLevel (leaves_in before ++ leaf ∷ []) n k) before 0 kept within
          (λ zero_is. record { nodes = new ∙ sym (lowest (leaves_in before ++ leaf ∷ [])); pad = pad ∙ was.pad })
          level d (λ other. absurd (other first)) first;
      others = λ level d above within_33. each_set (λ n k. 0 < n → IsLevel (leaves_in before) n k) before 0 kept within
          (λ none. absurd (omega (arith, none))) level d (λ other. λ some. tower.each level d within_33) above;
      room = λ level d above within_33. each_set (λ n k. 0 < n → 1 ≤ k.spare) before 0 kept within
          (λ none. absurd (omega (arith, none))) level d (λ other. λ some. room level d (omega (arith, within_33, long))) above;
    }

-- the nodes of a level when the level below has the leaf
raised_nodes : (old : List Hash32) (leaf node : Hash32) (at place : ℕ) (low high : KeptLevel) → IsLevel (old ++ leaf ∷ []) at low → IsLevel old (at + 1) high
    → at < height_of (length (old ++ leaf ∷ [])) → place ≡ (length low.nodes - 1) / 2
    → node ≡ dot32 (get_or low.nodes (2 * place) low.pad) (get_or low.nodes (2 * place + 1) low.pad)
    → take place high.nodes ++ node ∷ [] ≡ level_of (old ++ leaf ∷ []) (at + 1)
raised_nodes old leaf node at place low high under over below place_is node_is =
    let next : at + 1 ≡ suc at = omega arith in
    let new = old ++ leaf ∷ [] in
    let long : place ≡ (length (level_of new at) - 1) / 2 = place_is ∙ ap (λ (xs : List Hash32). (length xs - 1) / 2) under.nodes in
    let hashed : node ≡ dot32 (get_or (level_of new at) (2 * place) (pad_of at)) (get_or (level_of new at) (2 * place + 1) (pad_of at)) =
    node_is ∙ ap (λ (xs : List Hash32). dot32 (get_or xs (2 * place) low.pad) (get_or xs (2 * place + 1) low.pad)) under.nodes
    ∙ ap (λ (p : Hash32). dot32 (get_or (level_of new at) (2 * place) p) (get_or (level_of new at) (2 * place + 1) p)) under.pad in
    ap (λ (xs : List Hash32). take place xs ++ node ∷ []) (over.nodes ∙ ap (λ n. level_of old n) next)
    ∙ ap (λ (x : Hash32). take place (level_of old (suc at)) ++ x ∷ []) hashed
    ∙ sym (grown old leaf at place below long)
    ∙ ap (λ n. level_of new n) (sym next)

pub raised_next : (before levels : List KeptLevel) (leaf node : Hash32) (at place : ℕ) (kept d f e : KeptLevel) → IsRaised before leaf at levels
    → at < 32 → at < height_of (length (leaves_in before ++ leaf ∷ [])) → place ≡ (length (get_or levels at d).nodes - 1) / 2
    → node ≡ dot32 (get_or (get_or levels at f).nodes (2 * place) (get_or levels at f).pad)
    (get_or (get_or levels at f).nodes (2 * place + 1) (get_or levels at f).pad)
    → kept.nodes ≡ take place (get_or levels (at + 1) e).nodes ++ node ∷ [] → kept.pad ≡ (get_or levels (at + 1) e).pad
    → IsRaised before leaf (at + 1) (set levels (at + 1) kept)
raised_next before levels leaf node at place kept d f e r small below place_is node_is nodes pad =
    let long = r.long in
    let within : at + 1 < length levels = omega (arith, long, small) in
    let new = leaves_in before ++ leaf ∷ [] in
    let one : get_or levels at d ≡ get_or levels at f = get_or_default levels at d f (omega (arith, long, small)) in
    let is_under : IsLevel new at (get_or levels at f) = r.raised at f (omega arith) (omega (arith, small)) in
    let over = r.others (at + 1) e (omega arith) (omega (arith, small)) in
    let is : IsLevel new (at + 1) kept = record {
      nodes = nodes ∙ raised_nodes (leaves_in before) leaf node at place (get_or levels at f) (get_or levels (at + 1) e) is_under over below
          (place_is ∙ ap (λ (k : KeptLevel). (length k.nodes - 1) / 2) one) node_is;
      pad = pad ∙ over.pad;
    } in
    record {
      long = length-set levels (at + 1) kept ∙ long;
      raised = λ level g h within_33. each_set (λ n k. n ≤ at + 1 → IsLevel new n k) levels (at + 1) kept within
          (λ last. is) level g (λ other. λ up_to. r.raised level g (omega (arith, up_to, other)) within_33) h;
      others = λ level g h within_33. each_set (λ n k. at + 1 < n → IsLevel (leaves_in before) n k) levels (at + 1) kept within
          (λ none. absurd (omega (arith, none))) level g (λ other. λ past. r.others level g (omega (arith, past)) within_33) h;
      room = λ level g h within_33. each_set (λ n k. at + 1 < n → 1 ≤ k.spare) levels (at + 1) kept within
          (λ none. absurd (omega (arith, none))) level g (λ other. λ past. r.room level g (omega (arith, past)) within_33) h;
    }

height_grows : (n : ℕ) → height_of n ≤ height_of (n + 1)
height_grows n = let room = height_of-room (n + 1) in height_of-least n (height_of (n + 1)) (omega (arith, room))

pub raised_leaves : (before levels : List KeptLevel) (leaf : Hash32) (at : ℕ) → IsRaised before leaf at levels → leaves_in levels ≡ leaves_in before ++ leaf ∷ []
raised_leaves before levels leaf at r =
    let long = r.long in
    first_level levels no_level (omega (arith, long)) ∙ (r.raised 0 no_level (omega arith) (omega arith)).nodes ∙ lowest (leaves_in before ++ leaf ∷ [])

-- above the root nothing changes
pub raised_tower : (before levels : List KeptLevel) (leaf : Hash32) (top : ℕ) → IsRaised before leaf top levels
    → top ≡ height_of (length (leaves_in before ++ leaf ∷ [])) → length (leaves_in before) < 2 ^ 32 → IsTower levels
raised_tower before levels leaf top r is few =
    let new = leaves_in before ++ leaf ∷ [] in
    let leaves = raised_leaves before levels leaf top r in
    let more : length new ≡ length (leaves_in before) + 1 = length-append (leaves_in before) (leaf ∷ []) in
    let higher : height_of (length (leaves_in before)) ≤ top =
    subst (λ (n : ℕ). height_of (length (leaves_in before)) ≤ n) (ap height_of (sym more) ∙ sym is) (height_grows (length (leaves_in before))) in
    record {
      long = r.long;
      few = subst (λ (xs : List Hash32). length xs ≤ 2 ^ 32) (sym leaves) (omega (arith, more, few));
      each = λ level d h. subst (λ (xs : List Hash32). IsLevel xs level (get_or levels level d)) (sym leaves)
          (elim (leb_tells level top) [
            | inl t ↦ r.raised level d t.1 h
            | inr f ↦
                let was = r.others level d f.1 h in
                record {
                  nodes = was.nodes ∙ past_root (leaves_in before) level (omega (arith, higher, f.1))
                      ∙ sym (past_root new level (subst (λ (n : ℕ). n < level) is f.1));
                  pad = was.pad;
                }
          ]);
    }

-- ---- levels in a vector

-- what is written through the slice of a vector is all of it
pub written_back : (xs ys : List KeptLevel) (n : ℕ) → length xs ≡ n → take n (xs ++ ys) ≡ xs
written_back xs ys n long = ap (λ m. take m (xs ++ ys)) (sym long) ∙ take-append_seam xs ys
