-- Ids at their places.
use Rattle.std.proofs.Common.{◌≡◌, ℕ, suc, ◌+◌, ◌<◌, ◌==◌, Bool, true, false, cond, List, [], ◌∷◌, ◌++◌, length, set, Option, Some, None, refl, sym, ◌∙◌, ap, arith, inl, inr, nat_cmp, is_eq}
use Rattle.std.specs.Prelude.{option_map, if◌then◌else◌}
use Rattle.std.specs.Map.{lookup}
use Rattle.std.specs.BTreeMap.{insert_entry, is_at}
use Rattle.std.proofs.lemmas.Bool.{eqb-true}
use Rattle.std.proofs.lemmas.Bool.Decides.{eqb_tells, nat_tests}
use Rattle.std.proofs.lemmas.List.{length-map}
use Rattle.ql_types.specs.declared.DocId.{DocId}
use Rattle.pmap.specs.KeyOrder.{documents_total, same_document}
use Rattle.pmap.proofs.Lookups.{lookup_put}
use Rattle.versions.specs.declared.recorded.Recorded.{Recorded}
use Rattle.versions.specs.Newest.{id_of, put}
use Rattle.versions.specs.Places.{place_in, ids_of, by_id, ArePlaces}

-- ---- an id that is there

within-step : (b : Bool) (rest : Option ℕ) (n at : ℕ) → ((k : ℕ) → rest ≡ Some k → k < n)
    → (if b then Some 0 else option_map (λ k. k + 1) rest) ≡ Some at → at < suc n
within-step true rest n at ih e = let z : 0 ≡ at = cc in omega arith
within-step false None n at ih e = cc
within-step false (Some k) n at ih e = let z : k + 1 ≡ at = cc in let h : k < n = ih k refl in omega arith

pub place-within : (xs : List ℕ) (id at : ℕ) → place_in xs id ≡ Some at → at < length xs
place-within [] id at e = cc
place-within (x ∷ xs) id at e = within-step (x == id) (place_in xs id) (length xs) at (λ k h. place-within xs id k h) e

there-step : (b : Bool) (rest more : Option ℕ) (at : ℕ) → ((k : ℕ) → rest ≡ Some k → more ≡ Some k)
    → (if b then Some 0 else option_map (λ k. k + 1) rest) ≡ Some at
    → (if b then Some 0 else option_map (λ k. k + 1) more) ≡ Some at
there-step true rest more at ih e = e
there-step false None more at ih e = cc
there-step false (Some k) more at ih e = rw (ih k refl) e

-- it is found at the same place where more ids follow
pub place-front : (xs ys : List ℕ) (id at : ℕ) → place_in xs id ≡ Some at → place_in (xs ++ ys) id ≡ Some at
place-front [] ys id at e = cc
place-front (x ∷ xs) ys id at e = there-step (x == id) (place_in xs id) (place_in (xs ++ ys) id) at (λ k h. place-front xs ys id k h) e

-- ---- an id that isn't there

behind-step : (b : Bool) (rest more : Option ℕ) (n : ℕ) (left : Option ℕ) → (rest ≡ None → more ≡ option_map (λ k. n + k) left)
    → (if b then Some 0 else option_map (λ k. k + 1) rest) ≡ None
    → (if b then Some 0 else option_map (λ k. k + 1) more) ≡ option_map (λ k. suc n + k) left
behind-step true rest more n left ih e = cc
behind-step false (Some k) more n left ih e = cc
behind-step false None more n None ih e = rw (ih refl) refl
behind-step false None more n (Some k) ih e =
    let h : n + k + 1 ≡ suc n + k = omega arith in
    rw (ih refl) (ap Some h)

map-zero : (o : Option ℕ) → o ≡ option_map (λ k. 0 + k) o
map-zero None = refl
map-zero (Some k) = let h : 0 + k ≡ k = omega arith in ap (λ (n : ℕ). Some n) (sym h)

-- it is found behind, where it isn't in front
pub place-behind : (xs ys : List ℕ) (id : ℕ) → place_in xs id ≡ None → place_in (xs ++ ys) id ≡ option_map (λ k. length xs + k) (place_in ys id)
place-behind [] ys id e = map-zero (place_in ys id)
place-behind (x ∷ xs) ys id e =
    behind-step (x == id) (place_in xs id) (place_in (xs ++ ys) id) (length xs) (place_in ys id) (λ h. place-behind xs ys id h) e

pub tied : (q k : ℕ) → is_eq (nat_cmp q k) ≡ (k == q)
tied q k = grind (arith, nat_tests)

last-one : (n x q : ℕ) → option_map (λ k. n + k) (place_in (x ∷ []) q) ≡ (if x == q then Some n else None)
last-one n x q = elim (eqb_tells x q) [
  | inl t ↦ rw t.0 (let h : n + 0 ≡ n = omega arith in ap Some h)
  | inr f ↦ rw f.0 refl
]

either-step : (o : Option ℕ) (xs : List ℕ) (x q : ℕ) → place_in xs q ≡ o → place_in xs x ≡ None
    → cond (is_eq (nat_cmp q x)) (Some (length xs)) o ≡ place_in (xs ++ x ∷ []) q
either-step None xs x q e absent = rw (tied q x, place-behind xs (x ∷ []) q e, last-one (length xs) x q) refl
either-step (Some k) xs x q e absent = elim (eqb_tells x q) [
  | inl t ↦ let same : x ≡ q = t.1 in let none : place_in xs q ≡ None = ap (place_in xs) (sym same) ∙ absent in cc
  | inr f ↦ rw (tied q x, f.0) (sym (place-front xs (x ∷ []) q k e))
]

-- a new id, at the end
pub place-last : (xs : List ℕ) (x q : ℕ) → place_in xs x ≡ None
    → cond (is_eq (nat_cmp q x)) (Some (length xs)) (place_in xs q) ≡ place_in (xs ++ x ∷ []) q
place-last xs x q absent = either-step (place_in xs q) xs x q refl absent

-- ---- documents at their places

put-step : (b : Bool) (rest : Option ℕ) (d r : Recorded) (ds : List Recorded) (at : ℕ)
    → ((k : ℕ) → rest ≡ Some k → put ds r ≡ set ds k r)
    → (if b then Some 0 else option_map (λ k. k + 1) rest) ≡ Some at
    → (if b then r ∷ ds else d ∷ put ds r) ≡ set (d ∷ ds) at r
put-step true rest d r ds at ih e = let z : at ≡ 0 = cc in rw z refl
put-step false None d r ds at ih e = cc
put-step false (Some k) d r ds at ih e =
    let z : k + 1 ≡ at = cc in
    let s : at ≡ suc k = omega arith in
    rw (s, ih k refl) refl

-- a later revision takes the place of the earlier one
pub put-at : (ds : List Recorded) (r : Recorded) (at : ℕ) → place_in (ids_of ds) (id_of r) ≡ Some at → put ds r ≡ set ds at r
put-at [] r at e = cc
put-at (d ∷ ds) r at e = put-step (id_of d == id_of r) (place_in (ids_of ds) (id_of r)) d r ds at (λ k h. put-at ds r k h) e

new-step : (b : Bool) (rest : Option ℕ) (d r : Recorded) (ds : List Recorded) → (rest ≡ None → put ds r ≡ ds ++ r ∷ [])
    → (if b then Some 0 else option_map (λ k. k + 1) rest) ≡ None
    → (if b then r ∷ ds else d ∷ put ds r) ≡ d ∷ (ds ++ r ∷ [])
new-step true rest d r ds ih e = cc
new-step false None d r ds ih e = rw (ih refl) refl
new-step false (Some k) d r ds ih e = cc

-- a new document goes to the end
pub put-new : (ds : List Recorded) (r : Recorded) → place_in (ids_of ds) (id_of r) ≡ None → put ds r ≡ ds ++ r ∷ []
put-new [] r e = refl
put-new (d ∷ ds) r e = new-step (id_of d == id_of r) (place_in (ids_of ds) (id_of r)) d r ds (λ h. put-new ds r h) e

ids-step : (b : Bool) (rest : Option ℕ) (d r : Recorded) (ds : List Recorded) (at : ℕ) → (id_of d == id_of r) ≡ b
    → ((k : ℕ) → rest ≡ Some k → ids_of (set ds k r) ≡ ids_of ds)
    → (if b then Some 0 else option_map (λ k. k + 1) rest) ≡ Some at
    → ids_of (set (d ∷ ds) at r) ≡ ids_of (d ∷ ds)
ids-step true rest d r ds at same ih e =
    let z : at ≡ 0 = cc in
    let s : id_of d ≡ id_of r = eqb-true (id_of d) (id_of r) same in
    rw z (ap (λ x. x ∷ ids_of ds) (sym s))
ids-step false None d r ds at same ih e = cc
ids-step false (Some k) d r ds at same ih e =
    let z : k + 1 ≡ at = cc in
    let s : at ≡ suc k = omega arith in
    rw s (ap (λ xs. id_of d ∷ xs) (ih k refl))

-- and the ids stay
pub ids-kept : (ds : List Recorded) (r : Recorded) (at : ℕ) → place_in (ids_of ds) (id_of r) ≡ Some at → ids_of (set ds at r) ≡ ids_of ds
ids-kept [] r at e = cc
ids-kept (d ∷ ds) r at e =
    ids-step (id_of d == id_of r) (place_in (ids_of ds) (id_of r)) d r ds at refl (λ k h. ids-kept ds r k h) e

pub document-within : (ds : List Recorded) (id at : ℕ) → place_in (ids_of ds) id ≡ Some at → at < length ds
document-within ds id at e = let h : at < length (ids_of ds) = place-within (ids_of ds) id at e in rw (← length-map ds id_of) h

-- ---- the places in a map

ids-more : (ds es : List Recorded) → ids_of (ds ++ es) ≡ ids_of ds ++ ids_of es
ids-more [] es = refl
ids-more (d ∷ ds) es = ap (λ xs. id_of d ∷ xs) (ids-more ds es)

-- a document more at the end
pub places-more : (m n : List (DocId × ℕ)) (ds es : List Recorded) (r : Recorded) (id : DocId) (at : ℕ) → ArePlaces m (ids_of ds)
    → place_in (ids_of ds) (id_of r) ≡ None → id ≡ r.revision.metadata.id → at ≡ length ds → n ≡ insert_entry by_id m id at → es ≡ ds ++ r ∷ []
    → ArePlaces n (ids_of es)
places-more m n ds es r id at were absent is count new more =
    let long : at ≡ length (ids_of ds) = count ∙ sym (length-map ds id_of) in
    let none : place_in (ids_of ds) id.raw ≡ None = ap (λ (i : DocId). place_in (ids_of ds) i.raw) is ∙ absent in
    let ids : ids_of es ≡ ids_of ds ++ id.raw ∷ [] =
    ap ids_of more ∙ ids-more ds (r ∷ []) ∙ ap (λ (i : DocId). ids_of ds ++ i.raw ∷ []) (sym is) in
    λ q.
    ap (λ (pairs : List (DocId × ℕ)). lookup (is_at (by_id q)) pairs) new
    ∙ lookup_put by_id documents_total same_document m id at q
    ∙ ap (cond (is_eq (nat_cmp q.raw id.raw)) (Some at)) (were q)
    ∙ ap (λ (n : ℕ). cond (is_eq (nat_cmp q.raw id.raw)) (Some n) (place_in (ids_of ds) q.raw)) long
    ∙ place-last (ids_of ds) id.raw q.raw none
    ∙ ap (λ xs. place_in xs q.raw) (sym ids)

-- a later revision at a document's place
pub places-kept : (m : List (DocId × ℕ)) (at : ℕ) (ds es : List Recorded) (r : Recorded) → ArePlaces m (ids_of ds)
    → place_in (ids_of ds) (id_of r) ≡ Some at → es ≡ set ds at r → ArePlaces m (ids_of es)
places-kept m at ds es r were place is =
    let same : ids_of es ≡ ids_of ds = ap ids_of is ∙ ids-kept ds r at place in
    λ q. were q ∙ ap (λ xs. place_in xs q.raw) (sym same)
