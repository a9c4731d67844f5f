-- Some of the documents, by their ids.
use Rattle.std.proofs.Common.{◌≡◌, ℕ, suc, ◌+◌, ◌<◌, ◌≤◌, ◌==◌, Bool, true, false, List, [], ◌∷◌, ◌++◌, length, take, get_or, map, Option, Some, None, Bor, refl, sym, ◌∙◌, ap, subst, arith}
use Rattle.std.specs.Prelude.{◌||◌, option_and_then, option_map, slice_get, if◌then◌else◌}
use Rattle.std.specs.List.{cons_option, filter}
use Rattle.std.specs.Map.{keys_of}
use Rattle.std.specs.declared.cmp.Ordering.{Ordering}
use Rattle.std.specs.Ordering.{match_ordering}
use Rattle.std.proofs.lemmas.Bool.{eqb-true, ltb-true}
use Rattle.std.proofs.lemmas.Cmp.{nat_cmp_total, tied_itself}
use Rattle.std.proofs.lemmas.List.{append-nil, take_more}
use Rattle.std.proofs.lemmas.List.Elements.{filter_map-append}
use Rattle.std.proofs.lemmas.List.Folds.{list_any-append}
use Rattle.ql_types.specs.declared.DocId.{DocId}
use Rattle.ledger_model.specs.State.{draft_of}
use Rattle.ledger_model.specs.declared.block.Draft.{Draft}
use Rattle.ledger_model.specs.Views.{latest}
use Rattle.pmap.specs.Pairs.{Each}
use Rattle.index_post.specs.Positions.{with_position}
use Rattle.index_post.proofs.Sets.{keys_inserted}
use Rattle.versions.specs.declared.recorded.Recorded.{Recorded}
use Rattle.versions.specs.Held.{drafts_lent, recorded_of}
use Rattle.versions.specs.Filing.{places_from}
use Rattle.versions.specs.Lookups.{AreApart, document_in, is_among, is_one_of, those_among}
use Rattle.versions.specs.Newest.{id_of, newest}
use Rattle.versions.specs.Places.{ids_of, is_behind, last_with, place_in, put_place, with_place}
use Rattle.versions.proofs.Filing.{ahead, past_put}
use Rattle.versions.proofs.Members.{found}
use Rattle.versions.proofs.Newest.{lent_drafts, lent_values, newest-latest}

-- ---- one id more

or-none : (b : Bool) → (b || false) ≡ b
or-none true = refl
or-none false = refl

pub among_more : (ids : List DocId) (id : DocId) (n : ℕ) → is_among (ids ++ id ∷ []) n ≡ (is_among ids n || (n == id.raw))
among_more ids id n = list_any-append (λ (i : DocId). n == i.raw) ids (id ∷ []) ∙ ap (λ (b : Bool). is_among ids n || b) (or-none (n == id.raw))

-- ---- the place of one document more

nowhere-step : (b : Bool) (d : Recorded) (o : Option Recorded) (rest : Option ℕ) → (o ≡ None → rest ≡ None)
    → (if b then Some d else o) ≡ None → (if b then Some 0 else option_map (λ at. at + 1) rest) ≡ None
nowhere-step true d o rest ih e = cc
nowhere-step false d o rest ih e = ap (option_map (λ at. at + 1)) (ih e)

nowhere : (ds : List Recorded) (id : ℕ) → document_in ds id ≡ None → place_in (ids_of ds) id ≡ None
nowhere [] id e = refl
nowhere (d ∷ ds) id e = nowhere-step (id_of d == id) d (document_in ds id) (place_in (ids_of ds) id) (λ h. nowhere ds id h) e

-- a place behind others is counted from these on
abbrev behind : ℕ → Option ℕ → Option ℕ
behind n o = option_map (λ at. n + at) o

here : (n : ℕ) (places : List ℕ) → with_position n (n ∷ places) ≡ n ∷ places
here n places = ap (λ (o : Ordering). match_ordering o (n ∷ n ∷ places) (n ∷ places) (n ∷ with_position n places)) (tied_itself nat_cmp_total n)

placed-here : (a : Bool) (n : ℕ) (places more : List ℕ) → more ≡ places → with_position n places ≡ n ∷ places
    → with_position (n + 0) (if a then n ∷ places else places) ≡ n ∷ more
placed-here true n places more same front =
    let at : n + 0 ≡ n = omega arith in
    ap (λ (k : ℕ). with_position k (n ∷ places)) at ∙ here n places ∙ ap (λ (ps : List ℕ). n ∷ ps) (sym same)
placed-here false n places more same front =
    let at : n + 0 ≡ n = omega arith in
    ap (λ (k : ℕ). with_position k places) at ∙ front ∙ ap (λ (ps : List ℕ). n ∷ ps) (sym same)

placed-behind : (a : Bool) (n k : ℕ) (places more : List ℕ) → with_position (suc n + k) places ≡ more
    → with_position (n + (k + 1)) (if a then n ∷ places else places) ≡ (if a then n ∷ more else more)
placed-behind true n k places more is =
    let at : n + (k + 1) ≡ suc n + k = omega arith in
    past_put true (n + (k + 1)) n places (omega arith) ∙ ap (λ (j : ℕ). n ∷ with_position j places) at ∙ ap (λ (ps : List ℕ). n ∷ ps) is
placed-behind false n k places more is =
    let at : n + (k + 1) ≡ suc n + k = omega arith in
    ap (λ (j : ℕ). with_position j places) at ∙ is

or-true : (a : Bool) → (a || true) ≡ true
or-true true = refl
or-true false = refl

place-step : (a b : Bool) (rest : Option ℕ) (n : ℕ) (places more : List ℕ) → (b ≡ true → more ≡ places)
    → with_place (behind (suc n) rest) places ≡ more → with_position n places ≡ n ∷ places
    → with_place (behind n (if b then Some 0 else option_map (λ at. at + 1) rest)) (if a then n ∷ places else places)
    ≡ (if a || b then n ∷ more else more)
place-step a true rest n places more same is front =
    placed-here a n places more (same refl) front ∙ ap (λ (b : Bool). if b then n ∷ more else more) (sym (or-true a))
place-step a false None n places more same is front =
    ap (λ (ps : List ℕ). if a then n ∷ ps else ps) is ∙ ap (λ (b : Bool). if b then n ∷ more else more) (sym (or-none a))
place-step a false (Some k) n places more same is front =
    placed-behind a n k places more is ∙ ap (λ (b : Bool). if b then n ∷ more else more) (sym (or-none a))

place-more : (ids : List DocId) (id : DocId) (ds : List Recorded) (n : ℕ) → AreApart ds
    → with_place (behind n (place_in (ids_of ds) id.raw)) (places_from (is_one_of ids) n ds) ≡ places_from (is_one_of (ids ++ id ∷ [])) n ds
place-more ids id [] n apart = refl
place-more ids id (d ∷ ds) n apart =
    let rest : Option ℕ = place_in (ids_of ds) id.raw in
    let places : List ℕ = places_from (is_one_of ids) (suc n) ds in
    let more : List ℕ = places_from (is_one_of (ids ++ id ∷ [])) (suc n) ds in
    let ih : with_place (behind (suc n) rest) places ≡ more = place-more ids id ds (suc n) apart.1 in
    let same : (id_of d == id.raw) ≡ true → more ≡ places =
    λ e.
    let none : rest ≡ None = ap (place_in (ids_of ds)) (sym (eqb-true (id_of d) id.raw e)) ∙ nowhere ds (id_of d) apart.0 in
    sym ih ∙ ap (λ (o : Option ℕ). with_place (behind (suc n) o) places) none in
    place-step (is_one_of ids d) (id_of d == id.raw) rest n places more same ih (ahead (is_one_of ids) ds n (suc n) (omega arith))
    ∙ ap (λ (b : Bool). if b then n ∷ more else more) (sym (among_more ids id (id_of d)))

counted : (o : Option ℕ) → o ≡ behind 0 o
counted None = refl
counted (Some at) = let s : at ≡ 0 + at = omega arith in ap (λ (n : ℕ). Some n) s

put-keys : (o : Option ℕ) (set : List (ℕ × ℕ)) → keys_of (put_place o set) ≡ with_place o (keys_of set)
put-keys None set = refl
put-keys (Some at) set = keys_inserted at set

-- the places of one id more
pub place_next : (ds : List Recorded) (ids : List DocId) (at : ℕ) (id : DocId) (place : Option ℕ) → AreApart ds
    → at < length ids → id ≡ get_or ids at id → place ≡ place_in (ids_of ds) id.raw
    → with_place place (places_from (is_one_of (take at ids)) 0 ds) ≡ places_from (is_one_of (take (at + 1) ids)) 0 ds
place_next ds ids at id place apart within this place_is =
    let more : take (at + 1) ids ≡ take at ids ++ id ∷ [] = take_more ids at id within ∙ ap (λ (x : DocId). take at ids ++ x ∷ []) (sym this) in
    ap (λ (o : Option ℕ). with_place o (places_from (is_one_of (take at ids)) 0 ds)) (place_is ∙ counted (place_in (ids_of ds) id.raw))
    ∙ place-more (take at ids) id ds 0 apart
    ∙ ap (λ (some : List DocId). places_from (is_one_of some) 0 ds) (sym more)

pub place_put : (ds : List Recorded) (ids : List DocId) (at : ℕ) (id : DocId) (place : Option ℕ) (set new : List (ℕ × ℕ)) → AreApart ds
    → at < length ids → id ≡ get_or ids at id → place ≡ place_in (ids_of ds) id.raw → new ≡ put_place place set
    → keys_of set ≡ places_from (is_one_of (take at ids)) 0 ds → keys_of new ≡ places_from (is_one_of (take (at + 1) ids)) 0 ds
place_put ds ids at id place set new apart within this place_is is so_far =
    ap keys_of is ∙ put-keys place set ∙ ap (with_place place) so_far ∙ place_next ds ids at id place apart within this place_is

none-asked : (ds : List Recorded) (n : ℕ) → [] ≡ places_from (is_one_of []) n ds
none-asked [] n = refl
none-asked (d ∷ ds) n = none-asked ds (suc n)

pub places_start : (ds : List Recorded) (set : List (ℕ × ℕ)) → set ≡ [] → keys_of set ≡ places_from (is_one_of []) 0 ds
places_start ds set none = ap keys_of none ∙ none-asked ds 0

-- ---- documents that are read one after another

pub some_more : (ds : List Recorded) (places : List ℕ) (at : ℕ) (o : Option Recorded) (some more : List Recorded) → o ≡ slice_get ds at
    → more ≡ some ++ cons_option o [] → some ≡ found ds places → more ≡ found ds (places ++ at ∷ [])
some_more ds places at o some more there next so_far =
    next ∙ ap (λ (xs : List Recorded). xs ++ cons_option o []) so_far
    ∙ ap (λ (own : Option Recorded). found ds places ++ cons_option own []) there
    ∙ sym (filter_map-append (λ k. slice_get ds k) places (at ∷ []))

-- ---- ids that stand in the order of their documents

-- the places are none, or none is behind the last one
abbrev pub IsLast : Option ℕ → List ℕ → Type 0
IsLast None places = places ≡ []
IsLast (Some last) places = Each (λ n. n ≤ last) places

behind-all : (n : ℕ) (places : List ℕ) → Each (λ m. m < n) places → with_position n places ≡ places ++ n ∷ []
behind-all n [] all = refl
behind-all n (m ∷ places) all = past_put true n m places all.0 ∙ ap (λ (ps : List ℕ). m ∷ ps) (behind-all n places all.1)

all-before : (last n : ℕ) (places : List ℕ) → last < n → Each (λ m. m ≤ last) places → Each (λ m. m < n) places
all-before last n [] less all = all
all-before last n (m ∷ places) less all = (omega (arith, less, all.0), all-before last n places less all.1)

up-to-all : (n : ℕ) (places : List ℕ) → Each (λ m. m < n) places → Each (λ m. m ≤ n) (places ++ n ∷ [])
up-to-all n [] all = (omega arith, all)
up-to-all n (m ∷ places) all = (omega (arith, all.0), up-to-all n places all.1)

before-place : (last : Option ℕ) (n : ℕ) (places : List ℕ) → is_behind last (Some n) ≡ true → IsLast last places → Each (λ m. m < n) places
before-place None n places behind is = subst (λ (ps : List ℕ). Each (λ m. m < n) ps) (sym is) tt
before-place (Some last) n places behind is = all-before last n places (ltb-true last n behind) is

put-last : (last place : Option ℕ) (places : List ℕ) → is_behind last place ≡ true → IsLast last places
    → (with_place place places ≡ places ++ cons_option place []) × IsLast (last_with last place) (places ++ cons_option place [])
put-last last None places behind is = (sym (append-nil places), subst (λ (ps : List ℕ). IsLast last ps) (sym (append-nil places)) is)
put-last last (Some n) places behind is =
    let before : Each (λ m. m < n) places = before-place last n places behind is in
    (behind-all n places before, up-to-all n places before)

found-next : (ds : List Recorded) (place : Option ℕ) → found ds (cons_option place []) ≡ cons_option (option_and_then (slice_get ds) place) []
found-next ds None = refl
found-next ds (Some n) = refl

-- one id more whose document isn't in front of the last one
pub order_next : (ds : List Recorded) (ids : List DocId) (at : ℕ) (id : DocId) (place last later : Option ℕ) (o : Option Recorded)
    (some more : List Recorded) → AreApart ds → at < length ids → id ≡ get_or ids at id → place ≡ place_in (ids_of ds) id.raw
    → is_behind last place ≡ true → later ≡ last_with last place → o ≡ option_and_then (slice_get ds) place → more ≡ some ++ cons_option o []
    → (some ≡ found ds (places_from (is_one_of (take at ids)) 0 ds)) × IsLast last (places_from (is_one_of (take at ids)) 0 ds)
    → (more ≡ found ds (places_from (is_one_of (take (at + 1) ids)) 0 ds)) × IsLast later (places_from (is_one_of (take (at + 1) ids)) 0 ds)
order_next ds ids at id place last later o some more apart within this place_is behind later_is there next so_far =
    let places : List ℕ = places_from (is_one_of (take at ids)) 0 ds in
    let put = put-last last place places behind so_far.1 in
    let all : places ++ cons_option place [] ≡ places_from (is_one_of (take (at + 1) ids)) 0 ds =
    sym put.0 ∙ place_next ds ids at id place apart within this place_is in
    let read : more ≡ found ds (places ++ cons_option place []) =
    next ∙ ap (λ (xs : List Recorded). xs ++ cons_option o []) so_far.0
    ∙ ap (λ (own : Option Recorded). found ds places ++ cons_option own []) there
    ∙ ap (λ (xs : List Recorded). found ds places ++ xs) (sym (found-next ds place))
    ∙ sym (filter_map-append (λ k. slice_get ds k) places (cons_option place [])) in (
      read ∙ ap (found ds) all,
      subst (λ (o : Option ℕ). IsLast o (places_from (is_one_of (take (at + 1) ids)) 0 ds)) (sym later_is)
          (subst (λ (ps : List ℕ). IsLast (last_with last place) ps) all put.1),
    )

pub order_start : (ds : List Recorded) (all : List Recorded) → all ≡ []
    → (all ≡ found ds (places_from (is_one_of []) 0 ds)) × IsLast None (places_from (is_one_of []) 0 ds)
order_start ds all none = (none ∙ ap (found ds) (none-asked ds 0), sym (none-asked ds 0))

-- ---- the same as drafts

drafts-step : (b : Bool) (d : Recorded) (ds : List Recorded) (more : List Draft) → map draft_of (map recorded_of ds) ≡ more
    → map draft_of (map recorded_of (if b then d ∷ ds else ds)) ≡ (if b then draft_of (recorded_of d) ∷ more else more)
drafts-step true d ds more ih = ap (λ (xs : List Draft). draft_of (recorded_of d) ∷ xs) ih
drafts-step false d ds more ih = ih

pub drafts_among : (ids : List DocId) (ds : List Recorded)
    → map draft_of (map recorded_of (filter (is_one_of ids) ds)) ≡ those_among ids (map draft_of (map recorded_of ds))
drafts_among ids [] = refl
drafts_among ids (d ∷ ds) =
    drafts-step (is_one_of ids d) d (filter (is_one_of ids) ds) (those_among ids (map draft_of (map recorded_of ds))) (drafts_among ids ds)

pub lent_among : (all : List (Bor Recorded)) (ids : List DocId) (rs : List Recorded) → lent_values all ≡ filter (is_one_of ids) (newest rs)
    → drafts_lent all ≡ those_among ids (latest (map draft_of (map recorded_of rs)))
lent_among all ids rs is =
    lent_drafts all ∙ ap (λ (ds : List Recorded). map draft_of (map recorded_of ds)) is ∙ drafts_among ids (newest rs)
    ∙ ap (those_among ids) (newest-latest rs)
