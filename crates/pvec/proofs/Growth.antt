-- One item more behind the last one: into the last leaf, into a new leaf, or into a new middle row.
use Rattle.std.proofs.Common.{◌≡◌, ℕ, zero, suc, ◌+◌, ◌-◌, ◌<◌, ◌≤◌, List, [], ◌∷◌, ◌++◌, length, Option, None, Some, refl, sym, ap, ◌∙◌, subst, arith, length-append, append_assoc}
use Rattle.std.specs.Prelude.{slice_get, slice_set}
use Rattle.std.specs.List.{flat_map}
use Rattle.std.proofs.lemmas.Bool.{cases_lt}
use Rattle.std.proofs.lemmas.List.{length-set, append-nil}
use Rattle.std.proofs.lemmas.List.Concat.{flat_map-append}
use Rattle.pvec.specs.Rows.{joined, IsPacked, IsLevelled, IsGrown, items_of}

-- a list ends in its last member
pub ends_in : {X : Type 0} (xs : List X) (x : X) → slice_get xs (length xs - 1) ≡ Some x → (front : List X) × (xs ≡ front ++ x ∷ []) × (length xs ≡ length front + 1)
ends_in [] x h = absurd (cc)
ends_in (y ∷ []) x h = let same : y ≡ x = cc in ([], ap (λ z. z ∷ []) same, refl)
ends_in (y ∷ (z ∷ xs)) x h =
    let next : suc (length (z ∷ xs) - 1) ≡ length (y ∷ (z ∷ xs)) - 1 = omega arith in
    let at : slice_get (z ∷ xs) (length (z ∷ xs) - 1) ≡ Some x = ap (slice_get (y ∷ (z ∷ xs))) next ∙ h in
    let rest = ends_in (z ∷ xs) x at in
    (y ∷ rest.0, ap (λ tail. y ∷ tail) rest.1, omega (arith, rest.2))

pub set_last : {X : Type 0} (front : List X) (x y : X) → slice_set (front ++ x ∷ []) (length front) y ≡ front ++ y ∷ []
set_last [] x y = refl
set_last (z ∷ front) x y = ap (λ tail. z ∷ tail) (set_last front x y)

joined-append : {X : Type 0} (xs ys : List (List X)) → joined (xs ++ ys) ≡ joined xs ++ joined ys
joined-append xs ys = flat_map-append (λ row. row) xs ys

joined_more : {X : Type 0} (rows : List (List X)) (row : List X) → joined (rows ++ row ∷ []) ≡ joined rows ++ row
joined_more rows row = joined-append rows (row ∷ []) ∙ ap (λ tail. joined rows ++ tail) (append-nil row)

pub packed_last : {X : Type 0} (front : List (List X)) (old new : List X) → IsPacked (front ++ old ∷ []) → 0 < length new
    → length new ≤ 64 → IsPacked (front ++ new ∷ [])
packed_last [] old new p some few = (some, few, (λ h. absurd (omega arith)), tt)
packed_last (row ∷ front) old new p some few =
    (p.0, p.1, (λ h. p.2 (omega (arith, length-append front (old ∷ [])))), packed_last front old new p.3 some few)

pub packed_more : {X : Type 0} (front : List (List X)) (old new : List X) → IsPacked (front ++ old ∷ []) → length old ≡ 64
    → 0 < length new → length new ≤ 64 → IsPacked ((front ++ old ∷ []) ++ new ∷ [])
packed_more [] old new p full some few = (p.0, p.1, (λ h. full), (some, few, (λ h. absurd (omega arith)), tt))
packed_more (row ∷ front) old new p full some few =
    (p.0, p.1, (λ h. p.2 (omega (arith, length-append front (old ∷ [])))), packed_more front old new p.3 full some few)

last_is_packed : {X : Type 0} (front : List (List X)) (row : List X) → IsPacked (front ++ row ∷ []) → (0 < length row) × (length row ≤ 64)
last_is_packed [] row p = (p.0, p.1)
last_is_packed (first ∷ front) row p = last_is_packed front row p.3

pub set_end : {X : Type 0} (xs front : List X) (x y : X) → xs ≡ front ++ x ∷ [] → slice_set xs (length xs - 1) y ≡ front ++ y ∷ []
set_end xs front x y e =
    let at : length xs - 1 ≡ length front = omega (arith, ap length e, length-append front (x ∷ [])) in
    rw (at, e) (set_last front x y)

module _ {X : Type 0} (uppers : List (List (List X))) (middles : List (List X)) (leaf : List X) where
  leaves : joined (uppers ++ (middles ++ leaf ∷ []) ∷ []) ≡ (joined uppers ++ middles) ++ leaf ∷ []
  leaves = joined_more uppers (middles ++ leaf ∷ []) ∙ sym (append_assoc (joined uppers) middles (leaf ∷ []))

  items : items_of (uppers ++ (middles ++ leaf ∷ []) ∷ []) ≡ joined (joined uppers ++ middles) ++ leaf
  items = ap joined leaves ∙ joined_more (joined uppers ++ middles) leaf

module _ {X : Type 0} (uppers : List (List (List X))) (middles : List (List X)) (leaf : List X) (item : X)
    (p : IsLevelled (uppers ++ (middles ++ leaf ∷ []) ∷ [])) where
  pub in_leaf : length leaf < 64 → IsGrown (uppers ++ (middles ++ leaf ∷ []) ∷ []) item (uppers ++ (middles ++ (leaf ++ item ∷ []) ∷ []) ∷ [])
  in_leaf h =
      let sizes = last_is_packed uppers (middles ++ leaf ∷ []) p.middles in
      record {
        items = items uppers middles (leaf ++ item ∷ []) ∙ sym (append_assoc (joined (joined uppers ++ middles)) leaf (item ∷ []))
            ∙ ap (λ front. front ++ item ∷ []) (sym (items uppers middles leaf));
        levelled = record {
          middles = packed_last uppers (middles ++ leaf ∷ []) (middles ++ (leaf ++ item ∷ []) ∷ []) p.middles
              (omega (arith, length-append middles ((leaf ++ item ∷ []) ∷ [])))
              (omega (arith, sizes.1, length-append middles (leaf ∷ []), length-append middles ((leaf ++ item ∷ []) ∷ [])));
          leaves = subst IsPacked (sym (leaves uppers middles (leaf ++ item ∷ [])))
              (packed_last (joined uppers ++ middles) leaf (leaf ++ item ∷ []) (subst IsPacked (leaves uppers middles leaf) p.leaves)
              (omega (arith, length-append leaf (item ∷ []))) (omega (arith, length-append leaf (item ∷ []))));
        };
      }

  -- behind a full leaf, wherever the new one goes
  beside : (new : List (List (List X))) → joined new ≡ joined (uppers ++ (middles ++ leaf ∷ []) ∷ []) ++ (item ∷ []) ∷ [] → IsPacked new
      → 64 ≤ length leaf → IsGrown (uppers ++ (middles ++ leaf ∷ []) ∷ []) item new
  beside new e q h =
      let packed : IsPacked ((joined uppers ++ middles) ++ leaf ∷ []) = subst IsPacked (leaves uppers middles leaf) p.leaves in
      let sizes = last_is_packed (joined uppers ++ middles) leaf packed in
      record {
        items = ap joined e ∙ joined_more (joined (uppers ++ (middles ++ leaf ∷ []) ∷ [])) (item ∷ []);
        levelled = record {
          middles = q;
          leaves = subst IsPacked (sym (e ∙ ap (λ front. front ++ (item ∷ []) ∷ []) (leaves uppers middles leaf)))
              (packed_more (joined uppers ++ middles) leaf (item ∷ []) packed (omega (arith, sizes.1)) (omega arith) (omega arith));
        };
      }

  pub in_middle : 64 ≤ length leaf → length (middles ++ leaf ∷ []) < 64
      → IsGrown (uppers ++ (middles ++ leaf ∷ []) ∷ []) item (uppers ++ ((middles ++ leaf ∷ []) ++ (item ∷ []) ∷ []) ∷ [])
  in_middle h k =
      let wider = length-append (middles ++ leaf ∷ []) ((item ∷ []) ∷ []) in
      beside (uppers ++ ((middles ++ leaf ∷ []) ++ (item ∷ []) ∷ []) ∷ [])
      (joined_more uppers ((middles ++ leaf ∷ []) ++ (item ∷ []) ∷ [])
      ∙ sym (append_assoc (joined uppers) (middles ++ leaf ∷ []) ((item ∷ []) ∷ []))
      ∙ ap (λ front. front ++ (item ∷ []) ∷ []) (sym (joined_more uppers (middles ++ leaf ∷ []))))
      (packed_last uppers (middles ++ leaf ∷ []) ((middles ++ leaf ∷ []) ++ (item ∷ []) ∷ []) p.middles (omega (arith, wider)) (omega (arith, wider)))
      h

  pub in_upper : 64 ≤ length leaf → 64 ≤ length (middles ++ leaf ∷ [])
      → IsGrown (uppers ++ (middles ++ leaf ∷ []) ∷ []) item ((uppers ++ (middles ++ leaf ∷ []) ∷ []) ++ ((item ∷ []) ∷ []) ∷ [])
  in_upper h k =
      let sizes = last_is_packed uppers (middles ++ leaf ∷ []) p.middles in
      beside ((uppers ++ (middles ++ leaf ∷ []) ∷ []) ++ ((item ∷ []) ∷ []) ∷ [])
      (joined_more (uppers ++ (middles ++ leaf ∷ []) ∷ []) ((item ∷ []) ∷ []))
      (packed_more uppers (middles ++ leaf ∷ []) ((item ∷ []) ∷ []) p.middles (omega (arith, sizes.1, k)) (omega arith) (omega arith))
      h

module _ {X : Type 0} (upper : List (List (List X))) (middle : List (List X)) (leaf : List X) (item : X)
    (f : slice_get upper (length upper - 1) ≡ Some middle) (g : slice_get middle (length middle - 1) ≡ Some leaf) (p : IsLevelled upper) where
  ends : (us : List (List (List X))) × (ms : List (List X)) × (upper ≡ us ++ (ms ++ leaf ∷ []) ∷ []) × (middle ≡ ms ++ leaf ∷ []) × (upper ≡ us ++ middle ∷ [])
  ends =
      let u = ends_in upper middle f in
      let m = ends_in middle leaf g in
      (u.0, m.0, u.1 ∙ ap (λ last. u.0 ++ last ∷ []) m.1, m.1, u.1)

  pub grown_in_leaf : length leaf < 64
      → IsGrown upper item (slice_set upper (length upper - 1) (slice_set middle (length middle - 1) (leaf ++ item ∷ [])))
  grown_in_leaf h =
      let e = ends in
      let new = slice_set middle (length middle - 1) (leaf ++ item ∷ []) in
      let inner : new ≡ e.1 ++ (leaf ++ item ∷ []) ∷ [] = set_end middle e.1 leaf (leaf ++ item ∷ []) e.3 in
      let outer = set_end upper e.0 middle new e.4 ∙ ap (λ last. e.0 ++ last ∷ []) inner in
      subst (λ u. IsGrown u item (slice_set upper (length upper - 1) new)) (sym e.2)
      (subst (λ n. IsGrown (e.0 ++ (e.1 ++ leaf ∷ []) ∷ []) item n) (sym outer) (in_leaf e.0 e.1 leaf item (subst IsLevelled e.2 p) h))

  pub grown_in_middle : 64 ≤ length leaf → length middle < 64
      → IsGrown upper item (slice_set upper (length upper - 1) (middle ++ (item ∷ []) ∷ []))
  grown_in_middle h k =
      let e = ends in
      let outer = set_end upper e.0 middle (middle ++ (item ∷ []) ∷ []) e.4 ∙ ap (λ m. e.0 ++ (m ++ (item ∷ []) ∷ []) ∷ []) e.3 in
      subst (λ u. IsGrown u item (slice_set upper (length upper - 1) (middle ++ (item ∷ []) ∷ []))) (sym e.2)
      (subst (λ n. IsGrown (e.0 ++ (e.1 ++ leaf ∷ []) ∷ []) item n) (sym outer)
      (in_middle e.0 e.1 leaf item (subst IsLevelled e.2 p) h (subst (λ m. length m < 64) e.3 k)))

  pub grown_in_upper : 64 ≤ length leaf → 64 ≤ length middle → IsGrown upper item (upper ++ ((item ∷ []) ∷ []) ∷ [])
  grown_in_upper h k =
      let e = ends in
      subst (λ u. IsGrown u item (u ++ ((item ∷ []) ∷ []) ∷ [])) (sym e.2)
      (in_upper e.0 e.1 leaf item (subst IsLevelled e.2 p) h (subst (λ m. 64 ≤ length m) e.3 k))

pub not_empty : {X : Type 0} (upper : List (List (List X))) (middle : List (List X)) → IsLevelled upper → slice_get upper (length upper - 1) ≡ Some middle → 0 < length middle
not_empty upper middle p f =
    let e = ends_in upper middle f in
    (last_is_packed e.0 middle (subst IsPacked e.1 p.middles)).0

pub empty_from_none : {X : Type 0} (xs : List X) → slice_get xs (length xs - 1) ≡ None → xs ≡ []
empty_from_none [] h = refl
empty_from_none (x ∷ []) h = cc
empty_from_none (x ∷ (y ∷ xs)) h =
    let next : suc (length (y ∷ xs) - 1) ≡ length (x ∷ (y ∷ xs)) - 1 = omega arith in
    let rest : y ∷ xs ≡ [] = empty_from_none (y ∷ xs) (ap (slice_get (x ∷ (y ∷ xs))) next ∙ h) in
    cc

-- the grown tree again, with an equation for each new row
module _ {X : Type 0} (upper : List (List (List X))) (middle : List (List X)) (leaf : List X) (item : X)
    (f : slice_get upper (length upper - 1) ≡ Some middle) (g : slice_get middle (length middle - 1) ≡ Some leaf) (p : IsLevelled upper)
    (low : List X) (mid : List (List X)) (new : List (List (List X))) where
  pub grown_in_leaf_by : length leaf < 64 → low ≡ leaf ++ item ∷ [] → mid ≡ slice_set middle (length middle - 1) low
      → new ≡ slice_set upper (length upper - 1) mid → IsGrown upper item new
  grown_in_leaf_by h a b c =
      let same : new ≡ slice_set upper (length upper - 1) (slice_set middle (length middle - 1) (leaf ++ item ∷ [])) =
      c ∙ ap (slice_set upper (length upper - 1)) (b ∙ ap (slice_set middle (length middle - 1)) a) in
      subst (IsGrown upper item) (sym same) (grown_in_leaf upper middle leaf item f g p h)

  pub grown_in_middle_by : 64 ≤ length leaf → length middle < 64 → low ≡ item ∷ [] → mid ≡ middle ++ low ∷ []
      → new ≡ slice_set upper (length upper - 1) mid → IsGrown upper item new
  grown_in_middle_by h k a b c =
      let same : new ≡ slice_set upper (length upper - 1) (middle ++ (item ∷ []) ∷ []) =
      c ∙ ap (slice_set upper (length upper - 1)) (b ∙ ap (λ row. middle ++ row ∷ []) a) in
      subst (IsGrown upper item) (sym same) (grown_in_middle upper middle leaf item f g p h k)

  pub grown_in_upper_by : 64 ≤ length leaf → 64 ≤ length middle → low ≡ item ∷ [] → mid ≡ low ∷ [] → new ≡ upper ++ mid ∷ []
      → IsGrown upper item new
  grown_in_upper_by h k a b c =
      let same : new ≡ upper ++ ((item ∷ []) ∷ []) ∷ [] = c ∙ ap (λ row. upper ++ row ∷ []) (b ∙ ap (λ row. row ∷ []) a) in
      subst (IsGrown upper item) (sym same) (grown_in_upper upper middle leaf item f g p h k)
