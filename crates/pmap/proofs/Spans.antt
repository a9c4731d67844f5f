-- Pairs from a key on and up to a key, and the rows that are left of them.
use Rattle.std.proofs.Common.{◌≡◌, ℕ, suc, ◌≤◌, Bool, true, false, cond, not, List, [], ◌∷◌, ◌++◌, length, drop, Option, None, Some, refl, sym, ap, ◌∙◌, subst, append_assoc}
use Rattle.std.specs.Prelude.{◌&&◌, slice_get}
use Rattle.std.specs.List.{filter, flat_map}
use Rattle.std.specs.declared.cmp.Ordering.{Ordering}
use Rattle.std.specs.declared.cmp.Ordering.TheVariants.{Less, Equal, Greater}
use Rattle.std.specs.declared.ops.Bound.TheVariants.{Included}
use Rattle.std.specs.Ordering.{is_le, is_lt}
use Rattle.std.specs.Cmp.{IsTotalOrder}
use Rattle.std.specs.BTreeMap.Range.{entries_between, entries_from}
use Rattle.std.proofs.lemmas.List.{drop_at}
use Rattle.pmap.specs.Pairs.{Each, IsBelow, Ascends, IsPlace, IsRowFor, cut_at}
use Rattle.pmap.specs.Levels.{pairs_in, pairs_of, BeginsWith, AreRows, AreLevels}
use Rattle.pmap.specs.Ranges.{left_of, IsFilled, IsLeft, IsStart, is_within, up_to}
use Rattle.pmap.proofs.Cuts.{ascends_right, below_equal, below_through, pair_of, whole}
use Rattle.pmap.proofs.InRows.{ascends_in, begin_leaves, begin_middles, cut_row, each_drop, each_get}

lesser : (o : Ordering) → not (is_lt o) ≡ false → o ≡ Less
lesser Less h = refl
lesser Equal h = absurd (cc)
lesser Greater h = absurd (cc)

pub is_not : (b : Bool) → not b ≡ true → b ≡ false
is_not true h = absurd (cc)
is_not false h = refl

twice_by : {X : Type 0} (p q : X → Bool) (x : X) (xs : List X) (b : Bool) → p x ≡ b → filter q (filter p xs) ≡ filter (λ y. p y && q y) xs
    → filter q (filter p (x ∷ xs)) ≡ filter (λ y. p y && q y) (x ∷ xs)
twice_by {X = X} p q x xs true e ih = rw e (ap (λ (rest : List X). cond (q x) (x ∷ rest) rest) ih)
twice_by p q x xs false e ih = rw e ih

filtered_twice : {X : Type 0} (p q : X → Bool) (xs : List X) → filter q (filter p xs) ≡ filter (λ x. p x && q x) xs
filtered_twice p q [] = refl
filtered_twice p q (x ∷ xs) = twice_by p q x xs (p x) refl (filtered_twice p q xs)

module _ {K X : Type 0} (order : K → K → Ordering) (total : IsTotalOrder order) (same : (a b : K) → order a b ≡ Equal → a ≡ b) where
  -- from a key on
  kept : (low : K) (xs : List (K × X)) → IsBelow order low xs → entries_from (order low) xs ≡ xs
  kept low [] h = refl
  kept low (x ∷ xs) h = rw h.0 (ap (λ (rest : List (K × X)). x ∷ rest) (kept low xs h.1))

  from_by : (low : K) (pair : K × X) (pairs : List (K × X)) (o : Ordering) → order low pair.0 ≡ o → IsBelow order pair.0 pairs
      → entries_from (order low) pairs ≡ pair_of order total same low (cut_at order low pairs).1 ++ (cut_at order low pairs).2
      → entries_from (order low) (pair ∷ pairs) ≡ pair_of order total same low (cut_at order low (pair ∷ pairs)).1 ++ (cut_at order low (pair ∷ pairs)).2
  from_by low pair pairs Less e h ih =
      rw e (ap (λ (rest : List (K × X)). pair ∷ rest) (kept low pairs (below_through order total same low pair.0 pairs e h)))
  from_by low pair pairs Equal e h ih =
      let rest = kept low pairs (below_equal order total same low pair.0 pairs e h) in
      rw e (λ i. (sym (same low pair.0 e) i, pair.1) ∷ rest i)
  from_by low pair pairs Greater e h ih = rw e ih

  pub from_cut : (low : K) (pairs : List (K × X)) → Ascends order pairs
      → entries_from (order low) pairs ≡ pair_of order total same low (cut_at order low pairs).1 ++ (cut_at order low pairs).2
  from_cut low [] h = refl
  from_cut low (pair ∷ pairs) h = from_by low pair pairs (order low pair.0) refl h.0 (from_cut low pairs h.1)

  pub ascends_from : (low : K) (pairs : List (K × X)) → Ascends order pairs → Ascends order (entries_from (order low) pairs)
  ascends_from low pairs h =
      let cut = cut_at order low pairs in
      let parts = whole order total same low pairs ∙ append_assoc cut.0 (pair_of order total same low cut.1) cut.2 in
      subst (Ascends order) (sym (from_cut low pairs h))
      (ascends_right order total same cut.0 (pair_of order total same low cut.1 ++ cut.2) (subst (Ascends order) parts h))

  pub from_place : (low : K) (row : List (K × X)) (at : ℕ) (there : Bool) → Ascends order row → IsPlace order low row at there
      → drop at row ≡ entries_from (order low) row
  from_place low row at there h p =
      let cut = cut_at order low row in
      let parts = whole order total same low row ∙ append_assoc cut.0 (pair_of order total same low cut.1) cut.2 in
      ap (drop at) parts ∙ drop_at cut.0 (pair_of order total same low cut.1 ++ cut.2) at (sym p.lesser) ∙ sym (from_cut low row h)

  -- up to a key
  all_past : (high : K) (pairs : List (K × X)) → IsBelow order high pairs → up_to order (Some high) pairs ≡ []
  all_past high [] h = refl
  all_past high (pair ∷ pairs) h = rw h.0 (all_past high pairs h.1)

  pub past : (high : Option K) (pair : K × X) (pairs : List (K × X)) → Ascends order (pair ∷ pairs) → is_within order high pair.0 ≡ false
      → up_to order high (pair ∷ pairs) ≡ []
  past None pair pairs a h = absurd (cc)
  past (Some high) pair pairs a h =
      let less : order high pair.0 ≡ Less = lesser (order high pair.0) h in
      all_past high (pair ∷ pairs) (less, below_through order total same high pair.0 pairs less a.0)

  pub all_in : (pairs : List (K × X)) → up_to order None pairs ≡ pairs
  all_in [] = refl
  all_in (pair ∷ pairs) = ap (λ (rest : List (K × X)). pair ∷ rest) (all_in pairs)

  pub between : (low high : K) (pairs : List (K × X))
      → up_to order (Some high) (entries_from (order low) pairs) ≡ entries_between order (Included low) (Included high) pairs
  between low high pairs = filtered_twice (λ (pair : K × X). is_le (order low pair.0)) (λ (pair : K × X). not (is_lt (order high pair.0))) pairs

module _ {K V R : Type 0} (order : K → K → Ordering) (total : IsTotalOrder order) (same : (a b : K) → order a b ≡ Equal → a ≡ b) (c : R → List (K × V)) where
  from_row : (low : K) (rows : List (K × R)) (at : ℕ) (row : K × R) → Each (λ (row : K × R). BeginsWith row.0 (c row.1)) rows
      → Ascends order (flat_map (λ (row : K × R). c row.1) rows) → slice_get rows at ≡ Some row → IsRowFor order low rows at
      → entries_from (order low) (flat_map (λ (row : K × R). c row.1) rows)
      ≡ entries_from (order low) (c row.1) ++ flat_map (λ (row : K × R). c row.1) (drop (suc at) rows)
  from_row low rows at row b a f r =
      let behind = flat_map (λ (row : K × R). c row.1) (drop (suc at) rows) in
      let cut = cut_at order low (c row.1) in
      from_cut order total same low (flat_map (λ (row : K × R). c row.1) rows) a
      ∙ ap (λ (parts : List (K × V) × Option V × List (K × V)). pair_of order total same low parts.1 ++ parts.2)
      (cut_row order total same c low rows at row b a f (r.begins row f) r.next)
      ∙ sym (append_assoc (pair_of order total same low cut.1) cut.2 behind)
      ∙ ap (λ (own : List (K × V)). own ++ behind) (sym (from_cut order total same low (c row.1) (ascends_in order total same c rows at row a f)))

module _ {K V : Type 0} (order : K → K → Ordering) (total : IsTotalOrder order) (same : (a b : K) → order a b ≡ Equal → a ≡ b) where
  -- the next pair
  module _ (leaf first rest : List (K × V)) (middle next_middle : List (K × List (K × V))) (upper next_upper : List (K × List (K × List (K × V))))
      (pair : K × V) (f : IsFilled leaf middle upper first next_middle next_upper) (e : first ≡ pair ∷ rest) (h : IsLeft order leaf middle upper) where
    parts : left_of leaf middle upper ≡ pair ∷ left_of rest next_middle next_upper
    parts = sym f.same ∙ ap (λ (front : List (K × V)). left_of front next_middle next_upper) e

    ascending : Ascends order (pair ∷ left_of rest next_middle next_upper)
    ascending = subst (Ascends order) parts h.ascending

    pub next_past : (high : Option K) → is_within order high pair.0 ≡ false → up_to order high (left_of leaf middle upper) ≡ []
    next_past high h = ap (up_to order high) parts ∙ past order total same high pair (left_of rest next_middle next_upper) ascending h

  -- the pairs from a key on
  module _ (low : K) (upper : List (K × List (K × List (K × V)))) (levels : AreLevels order upper) (at : ℕ) (above : K × List (K × List (K × V)))
      (f : slice_get upper at ≡ Some above) (r : IsRowFor order low upper at) where
    pub middle_rows : AreRows above.1
    middle_rows = each_get (λ (row : K × List (K × List (K × V))). AreRows row.1) upper at above levels.leaves f

    pub middle_ascends : Ascends order (pairs_in above.1)
    middle_ascends = ascends_in order total same pairs_in upper at above levels.ascending f

    module _ (across : ℕ) (row : K × List (K × V)) (g : slice_get above.1 across ≡ Some row) (s : IsRowFor order low above.1 across)
        (along : ℕ) (there : Bool) (p : IsPlace order low row.1 along there) where
      pub started : IsStart order low (pairs_of upper) (drop along row.1) (drop (suc across) above.1) (drop (suc at) upper)
      started =
          let leaf_ascends = ascends_in order total same (λ (leaf : List (K × V)). leaf) above.1 across row middle_ascends g in
          let leaves = drop (suc across) above.1 in
          let middles = drop (suc at) upper in
          let high = from_row order total same pairs_in low upper at above (begin_middles order total same upper levels.middles levels.leaves) levels.ascending f r in
          let deep = from_row order total same (λ (leaf : List (K × V)). leaf) low above.1 across row (begin_leaves order total same above.1 middle_rows) middle_ascends g s in
          let is : left_of (drop along row.1) leaves middles ≡ entries_from (order low) (pairs_of upper) =
          ap (λ (own : List (K × V)). left_of own leaves middles) (from_place order total same low row.1 along there leaf_ascends p)
          ∙ sym (append_assoc (entries_from (order low) row.1) (pairs_in leaves) (pairs_of middles))
          ∙ ap (λ (own : List (K × V)). own ++ pairs_of middles) (sym deep) ∙ sym high in
          record {
            from_low = is;
            left = record {
              behind = record {
                leaves = each_drop (λ (leaf : K × List (K × V)). BeginsWith leaf.0 leaf.1 × (length leaf.1 ≤ 64)) (suc across) above.1 middle_rows;
                middles = each_drop (λ (middle : K × List (K × List (K × V))). BeginsWith middle.0 middle.1 × (length middle.1 ≤ 64)) (suc at) upper levels.middles;
                lower = each_drop (λ (middle : K × List (K × List (K × V))). AreRows middle.1) (suc at) upper levels.leaves;
              };
              ascending = subst (Ascends order) (sym is) (ascends_from order total same low (pairs_of upper) levels.ascending);
            };
          }

  -- the same where the parts are known by equations
  pub started_by : (low : K) (upper rest : List (K × List (K × List (K × V)))) (at : ℕ) (above : K × List (K × List (K × V)))
      (middle behind : List (K × List (K × V))) (across : ℕ) (row : K × List (K × V)) (leaf left : List (K × V)) (along : ℕ) (there : Bool)
      → AreLevels order upper → slice_get upper at ≡ Some above → rest ≡ drop (suc at) upper → IsRowFor order low upper at
      → middle ≡ above.1 → slice_get middle across ≡ Some row → behind ≡ drop (suc across) middle → IsRowFor order low middle across
      → leaf ≡ row.1 → IsPlace order low leaf along there → left ≡ drop along leaf → IsStart order low (pairs_of upper) left behind rest
  started_by low upper rest at above middle behind across row leaf left along there levels f e r m g d s l p k =
      let is = started low upper levels at above f r across row (sym (ap (λ (rows : List (K × List (K × V))). slice_get rows across) m) ∙ g)
      (subst (λ (rows : List (K × List (K × V))). IsRowFor order low rows across) m s) along there
      (subst (λ (pairs : List (K × V)). IsPlace order low pairs along there) l p) in
      let leaf_is : left ≡ drop along row.1 = k ∙ ap (drop along) l in
      let middle_is : behind ≡ drop (suc across) above.1 = d ∙ ap (drop (suc across)) m in
      subst (λ (pairs : List (K × V)). IsStart order low (pairs_of upper) pairs behind rest) (sym leaf_is)
      (subst (λ (rows : List (K × List (K × V))). IsStart order low (pairs_of upper) (drop along row.1) rows rest) (sym middle_is)
      (subst (IsStart order low (pairs_of upper) (drop along row.1) (drop (suc across) above.1)) (sym e) is))
