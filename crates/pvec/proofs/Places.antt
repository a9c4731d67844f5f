-- Where the members of packed rows stand in all of them joined.
use Rattle.std.proofs.Common.{Bor, ◌≡◌, ℕ, zero, suc, ◌+◌, ◌-◌, ◌*◌, ◌/◌, ◌%◌, ◌<◌, ◌≤◌, ◌⊎◌, inl, inr, List, [], ◌∷◌, ◌++◌, length, Option, None, Some, refl, sym, ap, ◌∙◌, subst, arith, length-append, add-zero}
use Rattle.std.specs.Prelude.{slice_get, slice_index_or, slice_set, MatchOption}
use Rattle.std.specs.Option.{option_and_then, option_copied}
use Rattle.std.proofs.lemmas.Bool.{cases_lt}
use Rattle.std.proofs.lemmas.List.{append-nil, length-set, set-append_left, set-append_right}
use Rattle.std.proofs.lemmas.Option.{slice_get_past, slice_get_read, slice_get_within}
use Rattle.pvec.specs.Rows.{joined, IsPacked, IsLevelled, IsChanged, items_of}

-- what `get` of a slice says
pub looked_up : {X : Type 0} (xs : List X) (i : ℕ) (r : Option (Bor X))
    → MatchOption r (length xs ≤ i) (λ x. (i < length xs) × ((d : X) → x.now ≡ slice_index_or xs i d)) → option_copied r ≡ slice_get xs i
looked_up xs i None h = sym (slice_get_past xs i h)
looked_up xs i (Some x) h = sym (slice_get_read xs (length xs) i x.now refl h.0 (h.1 x.now))

pub get_front : {X : Type 0} (xs ys : List X) (i : ℕ) → i < length xs → slice_get (xs ++ ys) i ≡ slice_get xs i
get_front [] ys i h = absurd (omega arith)
get_front (x ∷ xs) ys zero h = refl
get_front (x ∷ xs) ys (suc i) h = get_front xs ys i (omega arith)

pub get_behind : {X : Type 0} (xs ys : List X) (i j : ℕ) → i ≡ length xs + j → slice_get (xs ++ ys) i ≡ slice_get ys j
get_behind [] ys i j h = ap (slice_get ys) (omega arith)
get_behind (x ∷ xs) ys zero j h = absurd (omega arith)
get_behind (x ∷ xs) ys (suc i) j h = get_behind xs ys i j (omega arith)

pub get_joined : {X : Type 0} (rows : List (List X)) (q r i : ℕ) → IsPacked rows → r < 64 → i ≡ 64 * q + r
    → slice_get (joined rows) i ≡ option_and_then (λ row. slice_get row r) (slice_get rows q)
get_joined [] q r i p h e = refl
get_joined (row ∷ []) zero r i p h e = rw (append-nil row) (ap (slice_get row) (omega arith))
get_joined (row ∷ []) (suc q) r i p h e = rw (append-nil row) (slice_get_past row i (omega arith))
get_joined (row ∷ (next ∷ rows)) zero r i p h e =
    let full : length row ≡ 64 = p.2 (omega arith) in
    get_front row (joined (next ∷ rows)) i (omega arith) ∙ ap (slice_get row) (omega arith)
get_joined (row ∷ (next ∷ rows)) (suc q) r i p h e =
    let full : length row ≡ 64 = p.2 (omega arith) in
    get_behind row (joined (next ∷ rows)) i (64 * q + r) (omega arith) ∙ get_joined (next ∷ rows) q r (64 * q + r) p.3 h refl

pub set_joined : {X : Type 0} (rows : List (List X)) (q r i : ℕ) (row : List X) (x : X) → IsPacked rows → i ≡ 64 * q + r
    → slice_get rows q ≡ Some row → r < length row → joined (slice_set rows q (slice_set row r x)) ≡ slice_set (joined rows) i x
set_joined [] q r i row x p e f h = cc
set_joined (first ∷ rows) zero r i row x p e f h =
    let same : first ≡ row = cc in
    let at : i ≡ r = omega arith in
    rw (same, at) (sym (set-append_left row (joined rows) r x h))
set_joined (first ∷ rows) (suc q) r i row x p e f h =
    let within : q < length rows = slice_get_within rows q row f in
    let full : length first ≡ 64 = p.2 (omega arith) in
    let at : i - 64 ≡ 64 * q + r = omega arith in
    rw (set-append_right first (joined rows) 64 i x full (omega arith))
    (ap (λ tail. first ++ tail) (set_joined rows q r (i - 64) row x p.3 at f h))

pub packed_set : {X : Type 0} (rows : List (List X)) (q : ℕ) (old new : List X) → IsPacked rows → slice_get rows q ≡ Some old
    → length new ≡ length old → IsPacked (slice_set rows q new)
packed_set [] q old new p f e = tt
packed_set (first ∷ rows) zero old new p f e =
    let same : length first ≡ length old = cc in
    (omega arith, omega arith, (λ h. omega (arith, p.2 h)), p.3)
packed_set (first ∷ rows) (suc q) old new p f e =
    (p.0, p.1, (λ h. p.2 (omega (arith, length-set rows q new))), packed_set rows q old new p.3 f e)

pub leaf_place : {X : Type 0} (rows : List (List X)) (i : ℕ) → IsPacked rows
    → slice_get (joined rows) (i / 64) ≡ option_and_then (λ row. slice_get row (i / 64 % 64)) (slice_get rows (i / 64 / 64))
leaf_place rows i p = get_joined rows (i / 64 / 64) (i / 64 % 64) (i / 64) p (omega arith) (omega arith)

pub item_place : {X : Type 0} (upper : List (List (List X))) (i : ℕ) → IsLevelled upper
    → slice_get (items_of upper) i ≡ option_and_then (λ leaf. slice_get leaf (i % 64)) (slice_get (joined upper) (i / 64))
item_place upper i p = get_joined (joined upper) (i / 64) (i % 64) i p.leaves (omega arith) (omega arith)

pub chained : {X Y : Type 0} (f : X → Option Y) (o : Option X) (y : Y) → option_and_then f o ≡ Some y → (x : X) × (o ≡ Some x) × (f x ≡ Some y)
chained f None y h = absurd (cc)
chained f (Some x) y h = (x, refl, h)

pub there : {X : Type 0} (xs : List X) (i : ℕ) → i < length xs → (x : X) × (slice_get xs i ≡ Some x)
there [] i h = absurd (omega arith)
there (x ∷ xs) zero h = (x, refl)
there (x ∷ xs) (suc i) h = there xs i (omega arith)

module _ {X : Type 0} (upper : List (List (List X))) (i : ℕ) (p : IsLevelled upper) (h : i < length (items_of upper)) where
  pub places : (middle : List (List X)) × (leaf : List X) × (slice_get upper (i / 64 / 64) ≡ Some middle)
      × (slice_get middle (i / 64 % 64) ≡ Some leaf) × (slice_get (joined upper) (i / 64) ≡ Some leaf) × (i % 64 < length leaf)
  places =
      let item = there (items_of upper) i h in
      let low = chained (λ (row : List X). slice_get row (i % 64)) (slice_get (joined upper) (i / 64)) item.0 (sym (item_place upper i p) ∙ item.1) in
      let high = chained (λ (row : List (List X)). slice_get row (i / 64 % 64)) (slice_get upper (i / 64 / 64)) low.0 (sym (leaf_place upper i p.middles) ∙ low.1) in
      (high.0, low.0, high.1, high.2, low.1, slice_get_within low.0 (i % 64) item.0 low.2)

  module _ (middle : List (List X)) (f : slice_get upper (i / 64 / 64) ≡ Some middle) where
    pub middle_has : (leaf : List X) × (slice_get middle (i / 64 % 64) ≡ Some leaf) × (slice_get (joined upper) (i / 64) ≡ Some leaf) × (i % 64 < length leaf)
    middle_has =
        let all = places in
        let same : all.0 ≡ middle = cc in
        (all.1, subst (λ m. slice_get m (i / 64 % 64) ≡ Some all.1) same all.3, all.4, all.5)

    module _ (leaf : List X) (g : slice_get middle (i / 64 % 64) ≡ Some leaf) where
      pub leaf_has : (slice_get (joined upper) (i / 64) ≡ Some leaf) × (i % 64 < length leaf)
      leaf_has =
          let all = middle_has in
          let same : all.0 ≡ leaf = cc in
          (all.2 ∙ ap Some same, subst (λ l. i % 64 < length l) same all.3)

      pub changed : (item : X) → IsChanged upper i item (slice_set upper (i / 64 / 64) (slice_set middle (i / 64 % 64) (slice_set leaf (i % 64) item)))
      changed item =
          let at = leaf_has in
          let new = slice_set leaf (i % 64) item in
          let within : i / 64 % 64 < length middle = slice_get_within middle (i / 64 % 64) leaf g in
          let leaves = set_joined upper (i / 64 / 64) (i / 64 % 64) (i / 64) middle new p.middles (omega arith) f within in
          record {
            items = ap joined leaves ∙ set_joined (joined upper) (i / 64) (i % 64) i leaf item p.leaves (omega arith) at.0 at.1;
            levelled = record {
              middles = packed_set upper (i / 64 / 64) middle (slice_set middle (i / 64 % 64) new) p.middles f (length-set middle (i / 64 % 64) new);
              leaves = subst IsPacked (sym leaves) (packed_set (joined upper) (i / 64) leaf new p.leaves at.0 (length-set leaf (i % 64) item));
            };
          }

      pub changed_by : (item : X) (low : List X) (mid : List (List X)) (new : List (List (List X))) → low ≡ slice_set leaf (i % 64) item
          → mid ≡ slice_set middle (i / 64 % 64) low → new ≡ slice_set upper (i / 64 / 64) mid → IsChanged upper i item new
      changed_by item low mid new a b c =
          let same : new ≡ slice_set upper (i / 64 / 64) (slice_set middle (i / 64 % 64) (slice_set leaf (i % 64) item)) =
          c ∙ ap (slice_set upper (i / 64 / 64)) (b ∙ ap (slice_set middle (i / 64 % 64)) a) in
          subst (IsChanged upper i item) (sym same) (changed item)
