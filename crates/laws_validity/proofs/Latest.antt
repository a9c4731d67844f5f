-- The latest revision of a document, by either definition: the last of all revisions with its id, and the one that
-- stands for it among the latest of all documents.
use Rattle.std.proofs.Common.{◌≡◌, ◌∙◌, ◌==◌, ◌||◌, ℕ, Bool, true, false, not, List, [], ◌∷◌, ◌++◌, map, Option, Some, None, refl, sym, ap, subst, inl, inr, if◌then◌else◌}
use Rattle.std.specs.Prelude.{option_map}
use Rattle.std.specs.List.{AllByRecursion, list_any}
use Rattle.std.proofs.lemmas.Bool.{and_parts, or_from, or_parts, cond_both, eq-eqb, eqb-true, eqb-false, ne_eqb, not-true, cases_Bool}
use Rattle.std.proofs.lemmas.List.{map_push}
use Rattle.ledger_model.specs.declared.block.Draft.{Draft}
use Rattle.ledger_model.specs.Script.{or_else}
use Rattle.ledger_model.specs.State.{Recorded, draft_of}
use Rattle.ledger_model.specs.Views.{put, latest, latest_from}
use Rattle.ledger_model.specs.Follows.{latest_of, all_differ}
use Rattle.laws_validity.specs.Pending.{draft_ids, draft_for}
use Rattle.laws_validity.proofs.Lists.{all_like, differ_push, other_way}

-- ---- one revision more

pub latest_from-push : (log ds : List Draft) (d : Draft) → latest_from ds (log ++ d ∷ []) ≡ put (latest_from ds log) d
latest_from-push [] ds d = refl
latest_from-push (x ∷ log) ds d = latest_from-push log (put ds x) d

pub latest-push : (log : List Draft) (d : Draft) → latest (log ++ d ∷ []) ≡ put (latest log) d
latest-push log d = latest_from-push log [] d

-- it stands behind the others, where it is of none of their documents
pub put_new : (ds : List Draft) (d : Draft) → AllByRecursion (λ x. (x.id.raw == d.id.raw) ≡ false) ds
    → put ds d ≡ ds ++ d ∷ []
put_new [] d h = refl
put_new (x ∷ ds) d h = rw (h.0, put_new ds d h.1) refl

-- and else in the place of the one before
pub put_ids : (ds : List Draft) (d : Draft) → list_any (λ id. id == d.id.raw) (draft_ids ds) ≡ true
    → draft_ids (put ds d) ≡ draft_ids ds
put_ids [] d h = cc
put_ids (x ∷ ds) d h = by_test (λ k. put_ids ds d k) (x.id.raw == d.id.raw) refl h where
  by_test : (list_any (λ id. id == d.id.raw) (draft_ids ds) ≡ true → draft_ids (put ds d) ≡ draft_ids ds) → (b : Bool)
      → (x.id.raw == d.id.raw) ≡ b → (b || list_any (λ id. id == d.id.raw) (draft_ids ds)) ≡ true
      → draft_ids (if b then d ∷ ds else x ∷ put ds d) ≡ draft_ids (x ∷ ds)
  by_test rest true e k = ap (λ (id : ℕ). id ∷ draft_ids ds) (sym (eqb-true x.id.raw d.id.raw e))
  by_test rest false e k = ap (λ (ids : List ℕ). x.id.raw ∷ ids) (rest k)

pub others : (ds : List Draft) (id : ℕ) → list_any (λ x. x == id) (draft_ids ds) ≡ false
    → AllByRecursion (λ d. (d.id.raw == id) ≡ false) ds
others [] id h = tt
others (d ∷ ds) id h = let both =
    or_parts (d.id.raw == id) (list_any (λ x. x == id) (draft_ids ds)) h in (both.0, others ds id both.1)

turned : (ids : List ℕ) (id : ℕ) → list_any (λ x. x == id) ids ≡ false → list_any (λ x. id == x) ids ≡ false
turned [] id h = refl
turned (x ∷ ids) id h =
    let both = or_parts (x == id) (list_any (λ y. y == id) ids) h in
    or_from (id == x) (list_any (λ y. id == y) ids) (other_way id x both.0) (turned ids id both.1)

-- ---- the latest revisions are of different documents

put_differ : (ds : List Draft) (d : Draft) → all_differ (draft_ids ds) ≡ true
    → all_differ (draft_ids (put ds d)) ≡ true
put_differ ds d h =
    elim (cases_Bool (list_any (λ id. id == d.id.raw) (draft_ids ds))) [
      | inl there ↦ subst (λ ids. all_differ ids ≡ true) (sym (put_ids ds d there)) h
      | inr none ↦
          subst (λ xs. all_differ (draft_ids xs) ≡ true) (sym (put_new ds d (others ds d.id.raw none)))
          (subst (λ ids. all_differ ids ≡ true) (sym (map_push (λ x. x.id.raw) ds d))
          (differ_push (draft_ids ds) d.id.raw h (turned (draft_ids ds) d.id.raw none)))
    ]

differ_from : (rs ds : List Draft) → all_differ (draft_ids ds) ≡ true
    → all_differ (draft_ids (latest_from ds rs)) ≡ true
differ_from [] ds h = h
differ_from (r ∷ rs) ds h = differ_from rs (put ds r) (put_differ ds r h)

pub latest_differ : (log : List Draft) → all_differ (draft_ids (latest log)) ≡ true
latest_differ log = differ_from log [] refl

-- ---- what holds of each revision holds of each latest one

all_put : (P : Draft → Type 0) (ds : List Draft) (r : Draft) → AllByRecursion P ds → P r → AllByRecursion P (put ds r)
all_put P [] r h k = (k, tt)
all_put P (d ∷ ds) r h k =
    cond_both (d.id.raw == r.id.raw) (r ∷ ds) (d ∷ put ds r) (AllByRecursion P) (λ _. (k, h.1))
    (λ _. (h.0, all_put P ds r h.1 k))

all_from : (P : Draft → Type 0) (rs ds : List Draft) → AllByRecursion P ds → AllByRecursion P rs
    → AllByRecursion P (latest_from ds rs)
all_from P [] ds h k = h
all_from P (r ∷ rs) ds h k = all_from P rs (put ds r) (all_put P ds r h k.0) k.1

pub all_latest : (P : Draft → Type 0) (log : List Draft) → AllByRecursion P log → AllByRecursion P (latest log)
all_latest P log h = all_from P log [] tt h

-- ---- both definitions

draft_put : (ds : List Draft) (d : Draft) (id : ℕ)
    → draft_for (put ds d) id ≡ (if d.id.raw == id then Some d else draft_for ds id)
draft_put [] d id = refl
draft_put (x ∷ ds) d id = by_test (draft_put ds d id) (x.id.raw == d.id.raw) refl where
  apart : (x.id.raw == d.id.raw) ≡ false → (x.id.raw == id) ≡ true → (d.id.raw == id) ≡ false
  apart e t = ne_eqb d.id.raw id (λ same. eqb-false x.id.raw d.id.raw e (eqb-true x.id.raw id t ∙ sym same))

  in_place : (b : Bool) → (d.id.raw == id) ≡ b → x.id.raw ≡ d.id.raw
      → (if b then Some d else draft_for ds id) ≡
      (if b then Some d else if x.id.raw == id then Some x else draft_for ds id)
  in_place true k same = refl
  in_place false k same = rw (subst (λ (n : ℕ). (n == id) ≡ false) (sym same) k) refl

  further : draft_for (put ds d) id ≡ (if d.id.raw == id then Some d else draft_for ds id) → (b : Bool)
      → (x.id.raw == id) ≡ b → (x.id.raw == d.id.raw) ≡ false
      → (if b then Some x else draft_for (put ds d) id) ≡
      (if d.id.raw == id then Some d else if b then Some x else draft_for ds id)
  further rest true k e = rw (apart e k) refl
  further rest false k e = rest

  by_test : draft_for (put ds d) id ≡ (if d.id.raw == id then Some d else draft_for ds id) → (b : Bool)
      → (x.id.raw == d.id.raw) ≡ b
      → draft_for (if b then d ∷ ds else x ∷ put ds d) id ≡
      (if d.id.raw == id then Some d else if x.id.raw == id then Some x else draft_for ds id)
  by_test rest true e = in_place (d.id.raw == id) refl (eqb-true x.id.raw d.id.raw e)
  by_test rest false e = further rest (x.id.raw == id) refl e

or_none : {X : Type 0} (o : Option X) → or_else o None ≡ o
or_none None = refl
or_none (Some x) = refl

latest_behind : (rs : List Recorded) (ds : List Draft) (id : ℕ)
    → draft_for (latest_from ds (map draft_of rs)) id ≡ or_else (option_map draft_of (latest_of rs id))
    (draft_for ds id)
latest_behind [] ds id = refl
latest_behind (r ∷ rs) ds id =
    latest_behind rs (put ds (draft_of r)) id
    ∙ ap (λ o. or_else (option_map draft_of (latest_of rs id)) o) (draft_put ds (draft_of r) id)
    ∙ joined (latest_of rs id) (r.revision.metadata.id.raw == id) where
      joined : (o : Option Recorded) (b : Bool)
          → or_else (option_map draft_of o) (if b then Some (draft_of r) else draft_for ds id)
          ≡ or_else (option_map draft_of (or_else o (if b then Some r else None))) (draft_for ds id)
      joined (Some x) b = refl
      joined None true = refl
      joined None false = refl

-- The last revision of a document is the one that stands for it among the latest of all documents.
pub latest_is_latest_of : (revisions : List Recorded) (id : ℕ)
    → draft_for (latest (map draft_of revisions)) id ≡ option_map draft_of (latest_of revisions id)
latest_is_latest_of revisions id = latest_behind revisions [] id
    ∙ or_none (option_map draft_of (latest_of revisions id))

found_in : (ds : List Draft) → all_differ (draft_ids ds) ≡ true
    → AllByRecursion (λ d. draft_for ds d.id.raw ≡ Some d) ds
found_in [] h = tt
found_in (x ∷ xs) h =
    let both = and_parts (not (list_any (λ y. x.id.raw == y) (draft_ids xs))) (all_differ (draft_ids xs)) h in
    (rw (eq-eqb x.id.raw x.id.raw refl) refl, behind xs (not-true _ both.0) (found_in xs both.1)) where
      behind : (ds : List Draft) → list_any (λ y. x.id.raw == y) (draft_ids ds) ≡ false
          → AllByRecursion (λ d. draft_for xs d.id.raw ≡ Some d) ds
          → AllByRecursion (λ d. draft_for (x ∷ xs) d.id.raw ≡ Some d) ds
      behind [] none k = tt
      behind (d ∷ ds) none k =
          let parts = or_parts (x.id.raw == d.id.raw) (list_any (λ y. x.id.raw == y) (draft_ids ds)) none in
          (rw parts.0 k.0, behind ds parts.1 k.1)

-- Each of the latest of all documents is its document's last revision.
pub each_is_latest : (revisions : List Recorded)
    → AllByRecursion (λ d. option_map draft_of (latest_of revisions d.id.raw) ≡ Some d)
    (latest (map draft_of revisions))
each_is_latest revisions =
    let all = latest (map draft_of revisions) in
    all_like (λ d. draft_for all d.id.raw ≡ Some d) (λ d. option_map draft_of (latest_of revisions d.id.raw) ≡ Some d)
    (λ d found. sym (latest_is_latest_of revisions d.id.raw) ∙ found) all
    (found_in all (latest_differ (map draft_of revisions)))
