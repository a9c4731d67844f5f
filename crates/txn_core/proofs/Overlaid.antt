-- Documents at their places.
use Rattle.std.proofs.Common.{◌≡◌, ℕ, suc, ◌+◌, ◌<◌, ◌==◌, Bool, true, false, List, [], ◌∷◌, ◌++◌, length, set, Option, Some, None, refl, sym, ◌∙◌, ap, arith}
use Rattle.std.specs.Prelude.{option_map, if◌then◌else◌}
use Rattle.std.proofs.lemmas.List.{length-map, map-set, map-append}
use Rattle.ledger_model.specs.declared.block.Draft.{Draft}
use Rattle.ledger_model.specs.Views.{put, latest, latest_from}
use Rattle.txn_core.specs.Seen.{place_in}
use Rattle.view_rows.specs.declared.seen.Seen.{Seen}
use Rattle.view_rows.specs.Seen.{draft_seen, drafts_seen}

within-step : (b : Bool) (rest : Option ℕ) (n at : ℕ) → ((k : ℕ) → rest ≡ Some k → k < n)
    → (if b then Some 0 else option_map (λ k. k + 1) rest) ≡ Some at → at < suc n
within-step true rest n at ih e = let z : 0 ≡ at = cc in omega arith
within-step false None n at ih e = cc
within-step false (Some k) n at ih e = let z : k + 1 ≡ at = cc in let h : k < n = ih k refl in omega arith

pub place-within : (ds : List Draft) (id at : ℕ) → place_in ds id ≡ Some at → at < length ds
place-within [] id at e = cc
place-within (d ∷ ds) id at e = within-step (d.id.raw == id) (place_in ds id) (length ds) at (λ k h. place-within ds id k h) e

at-step : (b : Bool) (rest : Option ℕ) (d r : Draft) (ds : List Draft) (at : ℕ) → ((k : ℕ) → rest ≡ Some k → put ds r ≡ set ds k r)
    → (if b then Some 0 else option_map (λ k. k + 1) rest) ≡ Some at
    → (if b then r ∷ ds else d ∷ put ds r) ≡ set (d ∷ ds) at r
at-step true rest d r ds at ih e = let z : at ≡ 0 = cc in rw z refl
at-step false None d r ds at ih e = cc
at-step false (Some k) d r ds at ih e =
    let z : k + 1 ≡ at = cc in
    let s : at ≡ suc k = omega arith in
    rw (s, ih k refl) refl

-- a later revision takes the place of the earlier one
pub put-at : (ds : List Draft) (r : Draft) (at : ℕ) → place_in ds r.id.raw ≡ Some at → put ds r ≡ set ds at r
put-at [] r at e = cc
put-at (d ∷ ds) r at e = at-step (d.id.raw == r.id.raw) (place_in ds r.id.raw) d r ds at (λ k h. put-at ds r k h) e

new-step : (b : Bool) (rest : Option ℕ) (d r : Draft) (ds : List Draft) → (rest ≡ None → put ds r ≡ ds ++ r ∷ [])
    → (if b then Some 0 else option_map (λ k. k + 1) rest) ≡ None
    → (if b then r ∷ ds else d ∷ put ds r) ≡ d ∷ (ds ++ r ∷ [])
new-step true rest d r ds ih e = cc
new-step false None d r ds ih e = rw (ih refl) refl
new-step false (Some k) d r ds ih e = cc

-- a document's first revision goes to the end
pub put-new : (ds : List Draft) (r : Draft) → place_in ds r.id.raw ≡ None → put ds r ≡ ds ++ r ∷ []
put-new [] r e = refl
put-new (d ∷ ds) r e = new-step (d.id.raw == r.id.raw) (place_in ds r.id.raw) d r ds (λ h. put-new ds r h) e

-- ---- the same where contents are lent

pub seen-within : (ds : List Seen) (id at : ℕ) → place_in (drafts_seen ds) id ≡ Some at → at < length ds
seen-within ds id at e = let h : at < length (drafts_seen ds) = place-within (drafts_seen ds) id at e in rw (← length-map ds draft_seen) h

pub seen-put : (ds : List Seen) (d : Seen) (at : ℕ) → place_in (drafts_seen ds) d.id.raw ≡ Some at → drafts_seen (set ds at d) ≡ put (drafts_seen ds) (draft_seen d)
seen-put ds d at e = map-set draft_seen ds at d ∙ sym (put-at (drafts_seen ds) (draft_seen d) at e)

pub seen-push : (ds : List Seen) (d : Seen) → place_in (drafts_seen ds) d.id.raw ≡ None → drafts_seen (ds ++ d ∷ []) ≡ put (drafts_seen ds) (draft_seen d)
seen-push ds d e = map-append draft_seen ds (d ∷ []) ∙ sym (put-new (drafts_seen ds) (draft_seen d) e)

-- ---- one list of revisions and then another

pub latest-more : (ds xs ys : List Draft) → latest_from ds (xs ++ ys) ≡ latest_from (latest_from ds xs) ys
latest-more ds [] ys = refl
latest-more ds (x ∷ xs) ys = latest-more (put ds x) xs ys

pub latest_both : (xs ys : List Draft) → latest (xs ++ ys) ≡ latest_from (latest xs) ys
latest_both xs ys = latest-more [] xs ys

-- how many documents both are of
pub count_both : (none first both : List Seen) (log more : List Draft) (count : ℕ) → none ≡ [] → drafts_seen first ≡ latest_from (drafts_seen none) log
    → drafts_seen both ≡ latest_from (drafts_seen first) more → count ≡ length both → count ≡ length (latest (log ++ more))
count_both none first both log more count none_is first_is both_is count_is =
    let front : drafts_seen first ≡ latest log = first_is ∙ ap (λ (ds : List Seen). latest_from (drafts_seen ds) log) none_is in
    count_is ∙ sym (length-map both draft_seen)
    ∙ ap length (both_is ∙ ap (λ (ds : List Draft). latest_from ds more) front ∙ sym (latest_both log more))

pub latest_last : (xs : List Draft) (d : Draft) → latest (xs ++ d ∷ []) ≡ put (latest xs) d
latest_last xs d = latest_both xs (d ∷ [])
