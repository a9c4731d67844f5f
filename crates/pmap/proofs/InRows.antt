-- Where the pair of a key stands in rows, and in rows of rows.
use Rattle.std.proofs.Common.{◌≡◌, ℕ, zero, suc, ◌+◌, ◌<◌, ◌≤◌, List, [], ◌∷◌, ◌++◌, length, take, drop, Option, Some, refl, sym, ap, ◌∙◌, subst, arith, append_assoc, length-append}
use Rattle.std.specs.declared.cmp.Ordering.{Ordering}
use Rattle.std.specs.declared.cmp.Ordering.TheVariants.{Less, Equal}
use Rattle.std.specs.List.{flat_map}
use Rattle.std.specs.Prelude.{slice_get}
use Rattle.std.specs.Cmp.{IsTotalOrder}
use Rattle.std.proofs.lemmas.List.{append-nil, length-drop, length-take-le}
use Rattle.std.proofs.lemmas.List.Concat.{flat_map-append}
use Rattle.std.proofs.lemmas.Option.{same_Some}
use Rattle.pmap.specs.Pairs.{Each, IsBelow, IsAbove, Ascends, GoesOnAbove, IsPut, IsRowFor, cut_at, with_put}
use Rattle.pmap.specs.Levels.{pairs_in, pairs_of, BeginsWith, AreRows, IsParted, AreLeaves, AreLevels, IsChangedLeaf, IsChangedMiddle, AreRowsOf}
use Rattle.pmap.proofs.Cuts.{ahead, behind, ascends_left, ascends_right, ascends_with_put, below_right, greater_through, length_put}

pub each_append : {X : Type 0} (P : X → Type 0) (xs ys : List X) → Each P xs → Each P ys → Each P (xs ++ ys)
each_append P [] ys h k = k
each_append P (x ∷ xs) ys h k = (h.0, each_append P xs ys h.1 k)

pub each_left : {X : Type 0} (P : X → Type 0) (xs ys : List X) → Each P (xs ++ ys) → Each P xs
each_left P [] ys h = tt
each_left P (x ∷ xs) ys h = (h.0, each_left P xs ys h.1)

pub each_right : {X : Type 0} (P : X → Type 0) (xs ys : List X) → Each P (xs ++ ys) → Each P ys
each_right P [] ys h = h
each_right P (x ∷ xs) ys h = each_right P xs ys h.1

pub each_take : {X : Type 0} (P : X → Type 0) (n : ℕ) (xs : List X) → Each P xs → Each P (take n xs)
each_take P zero xs h = tt
each_take P (suc n) [] h = tt
each_take P (suc n) (x ∷ xs) h = (h.0, each_take P n xs h.1)

pub each_drop : {X : Type 0} (P : X → Type 0) (n : ℕ) (xs : List X) → Each P xs → Each P (drop n xs)
each_drop P zero xs h = h
each_drop P (suc n) [] h = tt
each_drop P (suc n) (x ∷ xs) h = each_drop P n xs h.1

pub each_get : {X : Type 0} (P : X → Type 0) (xs : List X) (i : ℕ) (x : X) → Each P xs → slice_get xs i ≡ Some x → P x
each_get P [] i x h f = absurd (cc)
each_get P (y ∷ xs) zero x h f = subst P (same_Some y x f) h.0
each_get P (y ∷ xs) (suc i) x h f = each_get P xs i x h.1 f

pub get_of : {X : Type 0} (xs : List X) (i : ℕ) → i < length xs → (x : X) × (slice_get xs i ≡ Some x)
get_of [] i h = absurd (omega arith)
get_of (x ∷ xs) zero h = (x, refl)
get_of (x ∷ xs) (suc i) h = get_of xs i (omega arith)

-- how many members there are with others in the place of one
spliced_length : {X : Type 0} (at : ℕ) (row put : List X) → at < length row → length ((take at row ++ put) ++ drop (suc at) row) + 1 ≡ length row + length put
spliced_length at row put h =
    omega (arith, length-append (take at row ++ put) (drop (suc at) row), length-append (take at row) put, length-drop (suc at) row, length-take-le at row (omega arith))

regrouped : {X : Type 0} (a b put d e : List X) → ((a ++ b) ++ put) ++ (d ++ e) ≡ (a ++ ((b ++ put) ++ d)) ++ e
regrouped a b put d e = simp append_assoc

pub begins_some : {K X : Type 0} (key : K) (pairs : List (K × X)) → BeginsWith key pairs → 0 < length pairs
begins_some key [] h = absurd h
begins_some key (pair ∷ pairs) h = omega arith

each_in : {K X : Type 0} (P : K × X → Type 0) (rows : List (K × List (K × X))) → Each P (pairs_in rows) → Each (λ (row : K × List (K × X)). Each P row.1) rows
each_in P [] h = tt
each_in P (row ∷ rows) h = (each_left P row.1 (pairs_in rows) h, each_in P rows (each_right P row.1 (pairs_in rows) h))

module _ {K V : Type 0} (order : K → K → Ordering) (total : IsTotalOrder order) (same : (a b : K) → order a b ≡ Equal → a ≡ b) where
  first_below : (k key : K) (ys zs : List (K × V)) → BeginsWith key ys → IsBelow order k (ys ++ zs) → order k key ≡ Less
  first_below k key [] zs b h = absurd b
  first_below k key (pair ∷ ys) zs b h = ap (order k) (sym b) ∙ h.0

  goes_first : (key k : K) (ys zs : List (K × V)) → BeginsWith k ys → order key k ≡ Less → GoesOnAbove order key (ys ++ zs)
  goes_first key k [] zs b h = absurd b
  goes_first key k (pair ∷ ys) zs b h = ap (order key) b ∙ h

  above_all : (key k : K) (xs ys : List (K × V)) → Ascends order (xs ++ ys) → ((p : K) → IsBelow order p ys → order p k ≡ Less)
      → (order key k ≡ Less → ⊥) → IsAbove order key xs
  above_all key k [] ys a t n = tt
  above_all key k (x ∷ xs) ys a t n =
      (greater_through order total key x.0 k (t x.0 (below_right order total same x.0 xs ys a.0)) n, above_all key k xs ys a.1 t n)

  module _ {R : Type 0} (c : R → List (K × V)) where
    abbrev contents : List (K × R) → List (K × V)
    contents rows = flat_map (λ (row : K × R). c row.1) rows

    abbrev Begin : List (K × R) → Type 0
    Begin rows = Each (λ (row : K × R). BeginsWith row.0 (c row.1)) rows

    below_first : (k : K) (rows : List (K × R)) (at : ℕ) (row : K × R) → IsBelow order k (contents rows) → Begin rows → slice_get rows at ≡ Some row
        → order k row.0 ≡ Less
    below_first k [] at row h b f = absurd (cc)
    below_first k (first ∷ rows) zero row h b f =
        subst (λ (r : K × R). order k r.0 ≡ Less) (same_Some first row f) (first_below k first.0 (c first.1) (contents rows) b.0 h)
    below_first k (first ∷ rows) (suc at) row h b f = below_first k rows at row (below_right order total same k (c first.1) (contents rows) h) b.1 f

    goes_contents : (key : K) (rows : List (K × R)) → Begin rows → GoesOnAbove order key rows → GoesOnAbove order key (contents rows)
    goes_contents key [] b h = tt
    goes_contents key (row ∷ rows) b h = goes_first key row.0 (c row.1) (contents rows) b.0 h

    pub cut_row : (key : K) (rows : List (K × R)) (at : ℕ) (row : K × R) → Begin rows → Ascends order (contents rows) → slice_get rows at ≡ Some row
        → (0 < at → order key row.0 ≡ Less → ⊥) → GoesOnAbove order key (drop (suc at) rows)
        → cut_at order key (contents rows)
        ≡ (contents (take at rows) ++ (cut_at order key (c row.1)).0, (cut_at order key (c row.1)).1, (cut_at order key (c row.1)).2 ++ contents (drop (suc at) rows))
    cut_row key [] at row b a f n x = absurd (cc)
    cut_row key (first ∷ rows) zero row b a f n x =
        let E : K × R → Type 0 = λ r. cut_at order key (c first.1 ++ contents rows)
        ≡ ((cut_at order key (c r.1)).0, (cut_at order key (c r.1)).1, (cut_at order key (c r.1)).2 ++ contents rows) in
        subst E (same_Some first row f) (ahead order total same key (c first.1) (contents rows) (goes_contents key rows b.1 x))
    cut_row key (first ∷ rows) (suc at) row b a f n x =
        let above : IsAbove order key (c first.1) =
        above_all key row.0 (c first.1) (contents rows) a (λ p h. below_first p rows at row h b.1 f) (n (omega arith)) in
        let rest = cut_row key rows at row b.1 (ascends_right order total same (c first.1) (contents rows) a) f (λ some. n (omega arith)) x in
        let d = cut_at order key (c row.1) in
        behind order total same key (c first.1) (contents rows) above
        ∙ ap (λ (cut : List (K × V) × Option V × List (K × V)). (c first.1 ++ cut.0, cut.1, cut.2)) rest
        ∙ ap (λ (front : List (K × V)). (front, d.1, d.2 ++ contents (drop (suc at) rows))) (sym (append_assoc (c first.1) (contents (take at rows)) d.0))

    pub put_row : (key : K) (put : List (K × V)) (rows : List (K × R)) (at : ℕ) (row : K × R) → Begin rows → Ascends order (contents rows)
        → slice_get rows at ≡ Some row → IsRowFor order key rows at
        → with_put order key put (contents rows) ≡ (contents (take at rows) ++ with_put order key put (c row.1)) ++ contents (drop (suc at) rows)
    put_row key put rows at row b a f r =
        ap (λ (cut : List (K × V) × Option V × List (K × V)). (cut.0 ++ put) ++ cut.2) (cut_row key rows at row b a f (r.begins row f) r.next)
        ∙ regrouped (contents (take at rows)) (cut_at order key (c row.1)).0 put (cut_at order key (c row.1)).2 (contents (drop (suc at) rows))

    pub ascends_in : (rows : List (K × R)) (at : ℕ) (row : K × R) → Ascends order (contents rows) → slice_get rows at ≡ Some row → Ascends order (c row.1)
    ascends_in [] at row a f = absurd (cc)
    ascends_in (first ∷ rows) zero row a f =
        subst (λ (r : K × R). Ascends order (c r.1)) (same_Some first row f) (ascends_left order total same (c first.1) (contents rows) a)
    ascends_in (first ∷ rows) (suc at) row a f = ascends_in rows at row (ascends_right order total same (c first.1) (contents rows) a) f

    -- the first keys of rows ascend where their members do
    below_rows : (k : K) (rows : List (K × R)) → Begin rows → IsBelow order k (contents rows) → IsBelow order k rows
    below_rows k [] b h = tt
    below_rows k (row ∷ rows) b h =
        (first_below k row.0 (c row.1) (contents rows) b.0 h, below_rows k rows b.1 (below_right order total same k (c row.1) (contents rows) h))

    first_before : (key : K) (ys zs : List (K × V)) → BeginsWith key ys → Ascends order (ys ++ zs) → IsBelow order key zs
    first_before key [] zs b a = absurd b
    first_before key (pair ∷ ys) zs b a = subst (λ k. IsBelow order k zs) b (below_right order total same pair.0 ys zs a.0)

    pub rows_ascend : (rows : List (K × R)) → Begin rows → Ascends order (contents rows) → Ascends order rows
    rows_ascend [] b a = tt
    rows_ascend (row ∷ rows) b a =
        (below_rows row.0 rows b.1 (first_before row.0 (c row.1) (contents rows) b.0 a), rows_ascend rows b.1 (ascends_right order total same (c row.1) (contents rows) a))

    pub rows_few : (rows : List (K × R)) → Begin rows → length rows ≤ length (contents rows)
    rows_few [] b = omega arith
    rows_few (row ∷ rows) b = omega (arith, rows_few rows b.1, begins_some row.0 (c row.1) b.0, length-append (c row.1) (contents rows))

    pub members_few : (rows : List (K × R)) (at : ℕ) (row : K × R) → slice_get rows at ≡ Some row → length (c row.1) ≤ length (contents rows)
    members_few [] at row f = absurd (cc)
    members_few (first ∷ rows) zero row f =
        subst (λ (r : K × R). length (c r.1) ≤ length (c first.1 ++ contents rows)) (same_Some first row f) (omega (arith, length-append (c first.1) (contents rows)))
    members_few (first ∷ rows) (suc at) row f = omega (arith, members_few rows at row f, length-append (c first.1) (contents rows))

  begins_by : (key k : K) (ys zs : List (K × V)) → k ≡ key → BeginsWith k ys → BeginsWith key (ys ++ zs)
  begins_by key k [] zs e b = absurd b
  begins_by key k (pair ∷ ys) zs e b = b ∙ e

  -- rows of rows begin with the keys of their first pairs
  begins_deep : (key : K) (middle : List (K × List (K × V))) → BeginsWith key middle → AreRows middle → BeginsWith key (pairs_in middle)
  begins_deep key [] b h = absurd b
  begins_deep key (row ∷ rows) b h = begins_by key row.0 row.1 (pairs_in rows) b h.0.0

  pub begin_leaves : (middle : List (K × List (K × V))) → AreRows middle → Begin (λ (leaf : List (K × V)). leaf) middle
  begin_leaves [] h = tt
  begin_leaves (row ∷ rows) h = (h.0.0, begin_leaves rows h.1)

  pub begin_middles : (upper : List (K × List (K × List (K × V)))) → AreRows upper → Each (λ (row : K × List (K × List (K × V))). AreRows row.1) upper
      → Begin pairs_in upper
  begin_middles [] h l = tt
  begin_middles (row ∷ rows) h l = (begins_deep row.0 row.1 h.0.0 l.0, begin_middles rows h.1 l.1)

  joined_twice : (upper : List (K × List (K × List (K × V)))) → pairs_of upper ≡ pairs_in (pairs_in upper)
  joined_twice [] = refl
  joined_twice (row ∷ rows) =
      ap (λ (tail : List (K × V)). pairs_in row.1 ++ tail) (joined_twice rows) ∙ sym (flat_map-append (λ (leaf : K × List (K × V)). leaf.1) row.1 (pairs_in rows))

  put_is_short : (key : K) (put : List (K × V)) → IsPut key put → length put ≤ 1
  put_is_short key [] p = omega arith
  put_is_short key (pair ∷ rest) p = omega (arith, ap length p.1)

  -- what becomes of a leaf
  module _ (key : K) (put leaf new : List (K × V)) (rows : List (K × List (K × V))) where
    pub leaf_changed : new ≡ with_put order key put leaf → IsParted new rows → IsChangedLeaf order key put leaf rows
    leaf_changed e p = record { pairs = p.members ∙ e; few = p.few; sizes = p.sizes }

    pub leaf_is_short : IsPut key put → length leaf ≤ 64 → new ≡ with_put order key put leaf → length new ≤ 128
    leaf_is_short p few e = omega (arith, ap length e, length_put order total same key put leaf, put_is_short key put p)

  -- what becomes of a middle row
  module _ (key : K) (put : List (K × V)) (middle : List (K × List (K × V))) (at : ℕ) (row : K × List (K × V)) (leaves spliced : List (K × List (K × V)))
      (m : AreLeaves order middle) (r : IsRowFor order key middle at) (f : slice_get middle at ≡ Some row)
      (l : IsChangedLeaf order key put row.1 leaves) (s : spliced ≡ (take at middle ++ leaves) ++ drop (suc at) middle) where
    pub middle_is_short : length middle ≤ 64 → length spliced ≤ 128
    middle_is_short few = omega (arith, ap length s, spliced_length at middle leaves r.within, l.few)

    abbrev IsRow : K × List (K × V) → Type 0
    IsRow row = BeginsWith row.0 row.1 × (length row.1 ≤ 64)

    pub middle_changed : (new : List (K × List (K × List (K × V)))) → IsParted spliced new → IsChangedMiddle order key put middle new
    middle_changed new p =
        let sizes : AreRows spliced = subst AreRows (sym s)
        (each_append IsRow (take at middle ++ leaves) (drop (suc at) middle)
        (each_append IsRow (take at middle) leaves (each_take IsRow at middle m.sizes) l.sizes) (each_drop IsRow (suc at) middle m.sizes)) in
        let joined = flat_map-append (λ (leaf : K × List (K × V)). leaf.1) in
        record {
          pairs = joined_twice new ∙ ap pairs_in (p.members ∙ s) ∙ joined (take at middle ++ leaves) (drop (suc at) middle)
              ∙ ap (λ (front : List (K × V)). front ++ pairs_in (drop (suc at) middle)) (joined (take at middle) leaves ∙ ap (λ (own : List (K × V)). pairs_in (take at middle) ++ own) l.pairs)
              ∙ sym (put_row (λ (leaf : List (K × V)). leaf) key put middle at row (begin_leaves middle m.sizes) m.ascending f r);
          few = p.few;
          middles = p.sizes;
          leaves = each_in IsRow new (subst AreRows (sym p.members) sizes);
        }

  -- what becomes of the upper row
  module _ (key : K) (put : List (K × V)) (upper : List (K × List (K × List (K × V)))) (at : ℕ) (row : K × List (K × List (K × V)))
      (middles new : List (K × List (K × List (K × V)))) (u : AreLevels order upper) (f : slice_get upper at ≡ Some row) where
    pub leaves_of : AreLeaves order row.1
    leaves_of = record {
      sizes = each_get (λ (row : K × List (K × List (K × V))). AreRows row.1) upper at row u.leaves f;
      ascending = ascends_in pairs_in upper at row u.ascending f;
    }

    pub size_of : (0 < length row.1) × (length row.1 ≤ 64)
    size_of =
        let is = each_get (λ (row : K × List (K × List (K × V))). BeginsWith row.0 row.1 × (length row.1 ≤ 64)) upper at row u.middles f in
        (begins_some row.0 row.1 is.0, is.1)

    abbrev IsUpperRow : K × List (K × List (K × V)) → Type 0
    IsUpperRow row = BeginsWith row.0 row.1 × (length row.1 ≤ 64)

    abbrev HasRows : K × List (K × List (K × V)) → Type 0
    HasRows row = AreRows row.1

    pub upper_changed : IsPut key put → IsRowFor order key upper at → IsChangedMiddle order key put row.1 middles
        → new ≡ (take at upper ++ middles) ++ drop (suc at) upper → AreRowsOf order (with_put order key put (pairs_of upper)) new
    upper_changed p r m s =
        let joined = flat_map-append (λ (row : K × List (K × List (K × V))). pairs_in row.1) in
        let pairs : pairs_of new ≡ with_put order key put (pairs_of upper) =
        ap pairs_of s ∙ joined (take at upper ++ middles) (drop (suc at) upper)
        ∙ ap (λ (front : List (K × V)). front ++ pairs_of (drop (suc at) upper)) (joined (take at upper) middles ∙ ap (λ (own : List (K × V)). pairs_of (take at upper) ++ own) m.pairs)
        ∙ sym (put_row pairs_in key put upper at row (begin_middles upper u.middles u.leaves) u.ascending f r) in
        record {
          holds = pairs;
          levels = record {
            middles = subst AreRows (sym s) (each_append IsUpperRow (take at upper ++ middles) (drop (suc at) upper)
                (each_append IsUpperRow (take at upper) middles (each_take IsUpperRow at upper u.middles) m.middles) (each_drop IsUpperRow (suc at) upper u.middles));
            leaves = subst (Each HasRows) (sym s) (each_append HasRows (take at upper ++ middles) (drop (suc at) upper)
                (each_append HasRows (take at upper) middles (each_take HasRows at upper u.leaves) m.leaves) (each_drop HasRows (suc at) upper u.leaves));
            ascending = subst (Ascends order) (sym pairs) (ascends_with_put order total same key put (pairs_of upper) p u.ascending);
          };
        }

module _ {K V : Type 0} (order : K → K → Ordering) (total : IsTotalOrder order) (same : (a b : K) → order a b ≡ Equal → a ≡ b) where
  pub first_rows_are : (key : K) (put leaf : List (K × V)) (leaves : List (K × List (K × V))) (rows : List (K × List (K × List (K × V)))) → IsPut key put
      → leaf ≡ put → IsParted leaf leaves → IsParted leaves rows → AreRowsOf order (with_put order key put []) rows
  first_rows_are key put leaf leaves rows p e l r =
      let holds : pairs_of rows ≡ with_put order key put [] =
      joined_twice order total same rows ∙ ap pairs_in r.members ∙ l.members ∙ e ∙ sym (append-nil put) in
      record {
        holds = holds;
        levels = record {
          middles = r.sizes;
          leaves = each_in (λ (row : K × List (K × V)). BeginsWith row.0 row.1 × (length row.1 ≤ 64)) rows (subst AreRows (sym r.members) l.sizes);
          ascending = subst (Ascends order) (sym holds) (ascends_with_put order total same key put [] p tt);
        };
      }
