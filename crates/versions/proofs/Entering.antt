-- The history of each document, with a revision more.
use Rattle.std.proofs.Common.{◌≡◌, ℕ, zero, suc, ◌+◌, ◌<◌, ◌==◌, Bool, true, false, cond, List, [], ◌∷◌, ◌++◌, length, length-append, set, Option, Some, None, refl, sym, ◌∙◌, ap, subst, arith, eq-eqb}
use Rattle.std.specs.Prelude.{option_map, slice_get, if◌then◌else◌}
use Rattle.std.specs.Option.{unwrap_or}
use Rattle.std.proofs.lemmas.Bool.{both_ways, eqb-true}
use Rattle.std.proofs.lemmas.List.{append-nil, length-map, length-set, map-append}
use Rattle.std.proofs.lemmas.Option.{same_Some}
use Rattle.versions.specs.declared.recorded.Recorded.{Recorded}
use Rattle.versions.specs.Histories.{AreHistories, entered, history_at, places_of}
use Rattle.versions.specs.Newest.{id_of, put}
use Rattle.versions.specs.Places.{ids_of, place_in}
use Rattle.versions.proofs.Along.{places_end}
use Rattle.versions.proofs.Places.{document-within, ids-kept, place-last, place-within, put-at, put-new, tied}

-- ---- items of lists

module _ {X : Type 0} where
  at_end : (xs : List X) (x : X) (n : ℕ) → n ≡ length xs → slice_get (xs ++ x ∷ []) n ≡ Some x
  at_end [] x zero e = refl
  at_end [] x (suc n) e = absurd (omega (arith, e))
  at_end (y ∷ xs) x zero e = absurd (omega (arith, e))
  at_end (y ∷ xs) x (suc n) e = at_end xs x n (omega (arith, e))

  in_front : (xs ys : List X) (k : ℕ) → k < length xs → slice_get (xs ++ ys) k ≡ slice_get xs k
  in_front [] ys k h = absurd (omega (arith, h))
  in_front (x ∷ xs) ys zero h = refl
  in_front (x ∷ xs) ys (suc k) h = in_front xs ys k (omega (arith, h))

  set_here : (xs : List X) (k : ℕ) (x : X) → k < length xs → slice_get (set xs k x) k ≡ Some x
  set_here [] k x h = absurd (omega (arith, h))
  set_here (y ∷ xs) zero x h = refl
  set_here (y ∷ xs) (suc k) x h = set_here xs k x (omega (arith, h))

  set_there : (xs : List X) (k j : ℕ) (x : X) → (k ≡ j → ⊥) → slice_get (set xs k x) j ≡ slice_get xs j
  set_there [] k j x h = refl
  set_there (y ∷ xs) zero zero x h = absurd (h refl)
  set_there (y ∷ xs) zero (suc j) x h = refl
  set_there (y ∷ xs) (suc k) zero x h = refl
  set_there (y ∷ xs) (suc k) (suc j) x h = set_there xs k j x (λ e. h (ap (λ (n : ℕ). suc n) e))

get_step : (b : Bool) (rest : Option ℕ) (x : ℕ) (xs : List ℕ) (id at : ℕ) → (b ≡ true → x ≡ id)
    → ((k : ℕ) → rest ≡ Some k → slice_get xs k ≡ Some id) → (if b then Some 0 else option_map (λ k. k + 1) rest) ≡ Some at
    → slice_get (x ∷ xs) at ≡ Some id
get_step true rest x xs id zero own ih e = ap (λ (n : ℕ). Some n) (own refl)
get_step true rest x xs id (suc at) own ih e = cc
get_step false None x xs id at own ih e = cc
get_step false (Some k) x xs id zero own ih e = let z : k + 1 ≡ 0 = cc in absurd (omega (arith, z))
get_step false (Some k) x xs id (suc at) own ih e =
    let z : k + 1 ≡ suc at = cc in
    let s : k ≡ at = omega (arith, z) in
    ih at (ap (λ (n : ℕ). Some n) s)

-- the id stands at its place
place_get : (xs : List ℕ) (id at : ℕ) → place_in xs id ≡ Some at → slice_get xs at ≡ Some id
place_get [] id at e = cc
place_get (x ∷ xs) id at e =
    get_step (x == id) (place_in xs id) x xs id at (λ own. eqb-true x id own) (λ k h. place_get xs id k h) e

place_unique : (xs : List ℕ) (a b k : ℕ) → place_in xs a ≡ Some k → place_in xs b ≡ Some k → a ≡ b
place_unique xs a b k h g = same_Some a b (sym (place_get xs a k h) ∙ place_get xs b k g)

-- ---- what is kept

module _ (kept : List (List ℕ)) where
  front_stands : (more : List (List ℕ)) (o : Option ℕ) → ((k : ℕ) → o ≡ Some k → k < length kept) → history_at (kept ++ more) o ≡ history_at kept o
  front_stands more None within = refl
  front_stands more (Some k) within = ap (λ (o : Option (List ℕ)). unwrap_or o []) (in_front kept more k (within k refl))

  others_stand : (at : ℕ) (own : List ℕ) (o : Option ℕ) → ((k : ℕ) → o ≡ Some k → at ≡ k → ⊥) → history_at (set kept at own) o ≡ history_at kept o
  others_stand at own None other = refl
  others_stand at own (Some k) other = ap (λ (o : Option (List ℕ)). unwrap_or o []) (set_there kept at k own (other k refl))

more_of : (rs : List Recorded) (r : Recorded) (id : ℕ)
    → places_of (rs ++ r ∷ []) id ≡ places_of rs id ++ (if id_of r == id then length rs ∷ [] else [])
more_of rs r id =
    let at : 0 + length rs ≡ length rs = omega arith in
    places_end (λ (x : Recorded). id_of x == id) rs 0 r
    ∙ ap (λ (n : ℕ). places_of rs id ++ (if id_of r == id then n ∷ [] else [])) at

module _ (kept : List (List ℕ)) (ds rs : List Recorded) (were : AreHistories kept ds rs) (r : Recorded) where
  -- ---- of a new document

  new_by : (b : Bool) (id : ℕ) → (id_of r == id) ≡ b → place_in (ids_of ds) (id_of r) ≡ None
      → history_at (kept ++ (length rs ∷ []) ∷ []) (if b then Some (length kept) else place_in (ids_of ds) id)
      ≡ places_of rs id ++ (if b then length rs ∷ [] else [])
  new_by true id is e =
      let own : id_of r ≡ id = eqb-true (id_of r) id is in
      let none : places_of rs id ≡ [] =
      sym (were.places id) ∙ ap (λ (n : ℕ). history_at kept (place_in (ids_of ds) n)) (sym own) ∙ ap (history_at kept) e in
      ap (λ (o : Option (List ℕ)). unwrap_or o []) (at_end kept (length rs ∷ []) (length kept) refl)
      ∙ sym (ap (λ (places : List ℕ). places ++ length rs ∷ []) none)
  new_by false id is e =
      let long : length (ids_of ds) ≡ length kept = length-map ds id_of ∙ sym were.long in
      front_stands kept ((length rs ∷ []) ∷ []) (place_in (ids_of ds) id)
      (λ k h. subst (λ (n : ℕ). k < n) long (place-within (ids_of ds) id k h))
      ∙ were.places id ∙ sym (append-nil (places_of rs id))

  new_place : (id : ℕ) → place_in (ids_of ds) (id_of r) ≡ None
      → place_in (ids_of (put ds r)) id ≡ (if id_of r == id then Some (length kept) else place_in (ids_of ds) id)
  new_place id e =
      let long : length (ids_of ds) ≡ length kept = length-map ds id_of ∙ sym were.long in
      ap (λ (xs : List ℕ). place_in xs id) (ap ids_of (put-new ds r e) ∙ map-append id_of ds (r ∷ []))
      ∙ sym (place-last (ids_of ds) (id_of r) id e)
      ∙ ap (λ (b : Bool). cond b (Some (length (ids_of ds))) (place_in (ids_of ds) id)) (tied id (id_of r))
      ∙ ap (λ (n : ℕ). cond (id_of r == id) (Some n) (place_in (ids_of ds) id)) long

  -- ---- of a document with revisions

  old_by : (b : Bool) (id at : ℕ) → (id_of r == id) ≡ b → place_in (ids_of ds) (id_of r) ≡ Some at
      → history_at (set kept at (history_at kept (Some at) ++ length rs ∷ [])) (place_in (ids_of ds) id)
      ≡ places_of rs id ++ (if b then length rs ∷ [] else [])
  old_by true id at is e =
      let own : id_of r ≡ id = eqb-true (id_of r) id is in
      let place : place_in (ids_of ds) id ≡ Some at = ap (place_in (ids_of ds)) (sym own) ∙ e in
      let within : at < length kept = subst (λ (n : ℕ). at < n) (sym were.long) (document-within ds (id_of r) at e) in
      ap (history_at (set kept at (history_at kept (Some at) ++ length rs ∷ []))) place
      ∙ ap (λ (o : Option (List ℕ)). unwrap_or o []) (set_here kept at (history_at kept (Some at) ++ length rs ∷ []) within)
      ∙ ap (λ (places : List ℕ). places ++ length rs ∷ []) (ap (history_at kept) (sym place) ∙ were.places id)
  old_by false id at is e =
      others_stand kept at (history_at kept (Some at) ++ length rs ∷ []) (place_in (ids_of ds) id)
      (λ k h same.
      let own : id_of r ≡ id = place_unique (ids_of ds) (id_of r) id k (e ∙ ap (λ (n : ℕ). Some n) same) h in
      both_ways (id_of r == id) is (eq-eqb (id_of r) id own))
      ∙ were.places id ∙ sym (append-nil (places_of rs id))

  -- ---- of both

  pub histories_more : (o : Option ℕ) → place_in (ids_of ds) (id_of r) ≡ o → AreHistories (entered kept o (length rs)) (put ds r) (rs ++ r ∷ [])
  histories_more None e = record {
    long =
        length-append kept ((length rs ∷ []) ∷ []) ∙ ap (λ (n : ℕ). n + 1) were.long ∙ sym (length-append ds (r ∷ []))
        ∙ ap length (sym (put-new ds r e));
    places = λ id.
        ap (history_at (kept ++ (length rs ∷ []) ∷ [])) (new_place id e) ∙ new_by (id_of r == id) id refl e ∙ sym (more_of rs r id);
  }
  histories_more (Some at) e = record {
    long =
        length-set kept at (history_at kept (Some at) ++ length rs ∷ []) ∙ were.long
        ∙ sym (ap length (put-at ds r at e) ∙ length-set ds at r);
    places = λ id.
        ap (λ (xs : List ℕ). history_at (set kept at (history_at kept (Some at) ++ length rs ∷ [])) (place_in xs id))
        (ap ids_of (put-at ds r at e) ∙ ids-kept ds r at e)
        ∙ old_by (id_of r == id) id at refl e ∙ sym (more_of rs r id);
  }
