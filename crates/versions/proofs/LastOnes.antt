-- The latest revisions are the last ones of their documents, and a revision is lent as it is kept.
use Rattle.std.proofs.Common.{◌≡◌, ℕ, ◌==◌, Bool, true, false, List, [], ◌∷◌, map, Option, Some, None, Bor, refl, sym, ◌∙◌, ap, ap₂, eq-eqb}
use Rattle.std.specs.Prelude.{option_map, slice_get, if◌then◌else◌}
use Rattle.std.specs.List.{filter}
use Rattle.std.proofs.lemmas.Bool.{eqb-true}
use Rattle.std.proofs.lemmas.Option.{slice_get-map}
use Rattle.ql_types.specs.declared.DocId.{DocId}
use Rattle.ledger_model.specs.State as state
use Rattle.ledger_model.specs.State.{draft_of}
use Rattle.ledger_model.specs.declared.block.Draft.{Draft}
use Rattle.ledger_model.specs.Follows.{latest_of}
use Rattle.versions.specs.declared.recorded.Recorded.{Recorded}
use Rattle.versions.specs.Held.{recorded_lent, recorded_of}
use Rattle.versions.specs.Lookups.{AreApart, document_in, is_one_of, last_among, last_of_each, those_among}
use Rattle.versions.specs.Newest.{id_of, newest, newest_from, put}
use Rattle.versions.proofs.Among.{drafts_among}
use Rattle.versions.proofs.Lookups.{document_last, other-id, put-document}
use Rattle.versions.proofs.Newest.{lent_values, newest-latest}

-- ---- no two of them are of one document

apart-step : (b : Bool) (d r : Recorded) (ds : List Recorded) → (id_of d == id_of r) ≡ b → AreApart (d ∷ ds) → AreApart (put ds r)
    → AreApart (if b then r ∷ ds else d ∷ put ds r)
apart-step true d r ds same apart more = (ap (document_in ds) (sym (eqb-true (id_of d) (id_of r) same)) ∙ apart.0, apart.1)
apart-step false d r ds same apart more =
    let other : (id_of r == id_of d) ≡ false = other-id (id_of d) (id_of r) (id_of d) same refl in
    (put-document ds r (id_of d) ∙ ap (λ (b : Bool). if b then Some r else document_in ds (id_of d)) other ∙ apart.0, more)

apart-put : (ds : List Recorded) (r : Recorded) → AreApart ds → AreApart (put ds r)
apart-put [] r apart = (refl, tt)
apart-put (d ∷ ds) r apart = apart-step (id_of d == id_of r) d r ds refl apart (apart-put ds r apart.1)

pub apart-newest : (ds rs : List Recorded) → AreApart ds → AreApart (newest_from ds rs)
apart-newest ds [] apart = apart
apart-newest ds (r ∷ rs) apart = apart-newest (put ds r) rs (apart-put ds r apart)

-- ---- so each is found by its id

abbrev pub Found : List Recorded → List Recorded → Type 0
Found all [] = Unit {0}
Found all (d ∷ ds) = (document_in all (id_of d) ≡ Some d) × Found all ds

found-step : (b : Bool) (d e : Recorded) (ds : List Recorded) → (id_of d == id_of e) ≡ b → document_in ds (id_of d) ≡ None
    → document_in ds (id_of e) ≡ Some e → (if b then Some d else document_in ds (id_of e)) ≡ Some e
found-step true d e ds same none is =
    let there : document_in ds (id_of e) ≡ None = ap (document_in ds) (sym (eqb-true (id_of d) (id_of e) same)) ∙ none in
    let bad : ⊥ = cc in absurd bad
found-step false d e ds same none is = is

found-more : (d : Recorded) (ds es : List Recorded) → document_in ds (id_of d) ≡ None → Found ds es → Found (d ∷ ds) es
found-more d ds [] none found = tt
found-more d ds (e ∷ es) none found = (found-step (id_of d == id_of e) d e ds refl none found.0, found-more d ds es none found.1)

pub found-all : (ds : List Recorded) → AreApart ds → Found ds ds
found-all [] apart = tt
found-all (d ∷ ds) apart =
    (ap (λ (b : Bool). if b then Some d else document_in ds (id_of d)) (eq-eqb (id_of d) (id_of d) refl), found-more d ds ds apart.0 (found-all ds apart.1))

-- ---- and is the last one of its document

pub each-last : (rs ds : List Recorded) → Found (newest rs) ds
    → map (λ (r : state.Recorded). Some r) (map recorded_of ds) ≡ map (λ (d : Draft). latest_of (map recorded_of rs) d.id.raw) (map draft_of (map recorded_of ds))
each-last rs [] found = refl
each-last rs (d ∷ ds) found =
    let last : Some (recorded_of d) ≡ latest_of (map recorded_of rs) (id_of d) = document_last (newest rs) rs (Some d) (id_of d) (sym found.0) refl in
    ap₂ (λ (o : Option state.Recorded) (os : List (Option state.Recorded)). o ∷ os) last (each-last rs ds found.1)

pub lent-recorded : (all : List (Bor Recorded)) → recorded_lent all ≡ map recorded_of (lent_values all)
lent-recorded [] = refl
lent-recorded (r ∷ rs) = ap (λ (xs : List state.Recorded). recorded_of r.now ∷ xs) (lent-recorded rs)

pub lent_last : (all : List (Bor Recorded)) (rs : List Recorded) → lent_values all ≡ newest rs
    → map (λ (r : state.Recorded). Some r) (recorded_lent all) ≡ last_of_each (map recorded_of rs)
lent_last all rs is =
    ap (map (λ (r : state.Recorded). Some r)) (lent-recorded all ∙ ap (map recorded_of) is)
    ∙ each-last rs (newest rs) (found-all (newest rs) (apart-newest [] rs tt))
    ∙ ap (map (λ (d : Draft). latest_of (map recorded_of rs) d.id.raw)) (newest-latest rs)

-- ---- the same of some of them

found-step-among : (b : Bool) (all : List Recorded) (d : Recorded) (ds : List Recorded) → document_in all (id_of d) ≡ Some d → Found all ds
    → Found all (if b then d ∷ ds else ds)
found-step-among true all d ds here found = (here, found)
found-step-among false all d ds here found = found

found-among : (ids : List DocId) (all ds : List Recorded) → Found all ds → Found all (filter (is_one_of ids) ds)
found-among ids all [] found = tt
found-among ids all (d ∷ ds) found = found-step-among (is_one_of ids d) all d (filter (is_one_of ids) ds) found.0 (found-among ids all ds found.1)

pub lent_last_among : (all : List (Bor Recorded)) (ids : List DocId) (rs : List Recorded) → lent_values all ≡ filter (is_one_of ids) (newest rs)
    → map (λ (r : state.Recorded). Some r) (recorded_lent all) ≡ last_among ids (map recorded_of rs)
lent_last_among all ids rs is =
    let those : List Recorded = filter (is_one_of ids) (newest rs) in
    ap (map (λ (r : state.Recorded). Some r)) (lent-recorded all ∙ ap (map recorded_of) is)
    ∙ each-last rs those (found-among ids (newest rs) (newest rs) (found-all (newest rs) (apart-newest [] rs tt)))
    ∙ ap (map (λ (d : Draft). latest_of (map recorded_of rs) d.id.raw)) (drafts_among ids (newest rs) ∙ ap (those_among ids) (newest-latest rs))

-- ---- a revision at its place

pub kept_at : (rs : List Recorded) (at : ℕ) (o : Option Recorded) → o ≡ slice_get rs at → option_map recorded_of o ≡ slice_get (map recorded_of rs) at
kept_at rs at o is = ap (option_map recorded_of) is ∙ sym (slice_get-map recorded_of rs at)
