-- The latest revisions, after one revision more and without what their blocks gave them.
use Rattle.std.proofs.Common.{◌≡◌, ℕ, ◌+◌, ◌≤◌, ◌==◌, Bool, true, false, List, [], ◌∷◌, ◌++◌, length, take, drop, map, Some, Bor, refl, sym, ◌∙◌, ap}
use Rattle.std.specs.Prelude.{slice_get, if◌then◌else◌}
use Rattle.std.proofs.lemmas.List.{append-nil, drop_all, map-append}
use Rattle.ql_types.specs.declared.TableId.{TableId}
use Rattle.ledger_model.specs.declared.block.Revision.{Revision}
use Rattle.ledger_model.specs.State as state
use Rattle.ledger_model.specs.declared.block.Draft.{Draft}
use Rattle.ledger_model.specs.State.{draft_of, recorded_in}
use Rattle.ledger_model.specs.Views as view
use Rattle.ledger_model.specs.Views.{latest, latest_from}
use Rattle.versions.specs.declared.recorded.Recorded.{Recorded}
use Rattle.versions.specs.Held.{drafts_lent, recorded_of}
use Rattle.versions.specs.Newest.{id_of, newest, newest_from, put}
use Rattle.versions.proofs.Along.{take_next}

pub newest-more : (ds xs ys : List Recorded) → newest_from ds (xs ++ ys) ≡ newest_from (newest_from ds xs) ys
newest-more ds [] ys = refl
newest-more ds (x ∷ xs) ys = newest-more (put ds x) xs ys

pub newest-last : (xs : List Recorded) (x : Recorded) → newest (xs ++ x ∷ []) ≡ put (newest xs) x
newest-last xs x = newest-more [] xs (x ∷ [])

abbrev draft : Recorded → Draft
draft r = draft_of (recorded_of r)

put-step : (b : Bool) (d r : Recorded) (ds : List Recorded) → map draft (put ds r) ≡ view.put (map draft ds) (draft r)
    → map draft (if b then r ∷ ds else d ∷ put ds r) ≡ (if b then draft r ∷ map draft ds else draft d ∷ view.put (map draft ds) (draft r))
put-step true d r ds ih = refl
put-step false d r ds ih = ap (λ xs. draft d ∷ xs) ih

put-drafts : (ds : List Recorded) (r : Recorded) → map draft (put ds r) ≡ view.put (map draft ds) (draft r)
put-drafts [] r = refl
put-drafts (d ∷ ds) r = put-step (id_of d == id_of r) d r ds (put-drafts ds r)

drafts-from : (ds rs : List Recorded) → map draft (newest_from ds rs) ≡ latest_from (map draft ds) (map draft rs)
drafts-from ds [] = refl
drafts-from ds (r ∷ rs) = drafts-from (put ds r) rs ∙ ap (λ xs. latest_from xs (map draft rs)) (put-drafts ds r)

map-map : (rs : List Recorded) → map draft rs ≡ map draft_of (map recorded_of rs)
map-map [] = refl
map-map (r ∷ rs) = ap (λ xs. draft r ∷ xs) (map-map rs)

-- as drafts they are the latest drafts
pub newest-latest : (rs : List Recorded) → map draft_of (map recorded_of (newest rs)) ≡ latest (map draft_of (map recorded_of rs))
newest-latest rs = sym (map-map (newest rs)) ∙ drafts-from [] rs ∙ ap latest (map-map rs)

-- ---- all revisions and the latest ones

pub shelf_next : (latest_ones rs more now : List Recorded) (r one other : Recorded) → latest_ones ≡ newest rs → one ≡ r → other ≡ r → more ≡ rs ++ one ∷ [] → now ≡ put latest_ones other
    → now ≡ newest more
shelf_next latest_ones rs more now r one other was one_is other_is more_is now_is =
    now_is ∙ ap (λ (x : Recorded). put latest_ones x) (other_is ∙ sym one_is) ∙ ap (λ (ds : List Recorded). put ds one) was
    ∙ sym (newest-last rs one) ∙ ap newest (sym more_is)

recorded-none : (ts : List TableId) → recorded_in ts [] ≡ []
recorded-none [] = refl
recorded-none (t ∷ ts) = refl

-- none of a block's revisions is left
pub shelf_end : (ms all : List state.Recorded) (ts : List TableId) (rs : List Revision) (at : ℕ) → length rs ≤ at → ms ++ recorded_in (drop at ts) (drop at rs) ≡ all → ms ≡ all
shelf_end ms all ts rs at past is =
    let none : recorded_in (drop at ts) (drop at rs) ≡ [] = ap (recorded_in (drop at ts)) (drop_all at rs past) ∙ recorded-none (drop at ts) in
    sym (append-nil ms) ∙ ap (λ (xs : List state.Recorded). ms ++ xs) (sym none) ∙ is

-- ---- revisions that are lent

abbrev pub lent_values : List (Bor Recorded) → List Recorded
lent_values all = map (λ r. r.now) all

pub lent_next : (all new : List (Bor Recorded)) (d : Bor Recorded) (ds : List Recorded) (at : ℕ) → slice_get ds at ≡ Some d.now → new ≡ all ++ d ∷ [] → lent_values all ≡ take at ds
    → lent_values new ≡ take (at + 1) ds
lent_next all new d ds at there new_is so_far =
    ap lent_values new_is ∙ map-append (λ (r : Bor Recorded). r.now) all (d ∷ []) ∙ ap (λ (xs : List Recorded). xs ++ d.now ∷ []) so_far ∙ sym (take_next ds at d.now there)

lent-drafts : (all : List (Bor Recorded)) → drafts_lent all ≡ map draft (lent_values all)
lent-drafts [] = refl
lent-drafts (r ∷ rs) = ap (λ (xs : List Draft). draft r.now ∷ xs) (lent-drafts rs)

pub lent_drafts : (all : List (Bor Recorded)) → drafts_lent all ≡ map draft_of (map recorded_of (lent_values all))
lent_drafts all = lent-drafts all ∙ map-map (lent_values all)

-- the latest ones, without what their blocks gave them
pub lent_newest : (all : List (Bor Recorded)) (rs : List Recorded) → lent_values all ≡ newest rs → drafts_lent all ≡ latest (map draft_of (map recorded_of rs))
lent_newest all rs is = lent-drafts all ∙ ap (map draft) is ∙ map-map (newest rs) ∙ newest-latest rs
