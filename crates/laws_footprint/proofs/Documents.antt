-- Documents in order of first insertion: what is left of them without some, and which revision each shows.
use Rattle.std.proofs.Common.{◌≡◌, ◌∙◌, ℕ, Bool, true, false, not, cond, ◌==◌, List, [], ◌∷◌, ◌++◌, map, refl, sym, ap, subst, Option, Some, None, option_map}
use Rattle.std.specs.List.{AllByRecursion, cons_option, filter, filter_map}
use Rattle.std.proofs.lemmas.Bool.{both_ways, eq-eqb, eqb-false, eqb-true, ne_eqb}
use Rattle.std.proofs.lemmas.List.{append_assoc, append-nil}
use Rattle.ql_types.specs.declared.TableId.{TableId}
use Rattle.pql_model.specs.declared.tables.Row.{Row}
use Rattle.ledger_model.specs.declared.block.Block.{Block}
use Rattle.ledger_model.specs.declared.block.Draft.{Draft}
use Rattle.ledger_model.specs.Follows.{latest_of}
use Rattle.ledger_model.specs.Script.{or_else}
use Rattle.ledger_model.specs.State.{Recorded, State, after, draft_of, revisions_after}
use Rattle.ledger_model.specs.Views.{latest, latest_from, put, row_of}
use Rattle.laws_footprint.specs.Touches.{revisions_in}
use Rattle.ledger_model.proofs.Redactions.{latest_kept}

abbrev pub meets_row : (Row → Bool) → Option Row → Bool
meets_row test None = false
meets_row test (Some row) = test row

skip_row : (test : Row → Bool) (o : Option Row) (rows : List Row) → meets_row test o ≡ false
    → filter test (cons_option o rows) ≡ filter test rows
skip_row test None rows h = refl
skip_row test (Some row) rows h = ap (λ b. cond b (row ∷ filter test rows) (filter test rows)) h

keep_row : (test : Row → Bool) (o : Option Row) (rows more : List Row) → filter test rows ≡ filter test more
    → filter test (cons_option o rows) ≡ filter test (cons_option o more)
keep_row test None rows more h = h
keep_row test (Some row) rows more h = ap (λ xs. cond (test row) (row ∷ xs) xs) h

-- ---- without some of them

-- the documents but for those
abbrev pub others : (ℕ → Bool) → List Draft → List Draft
others those docs = filter (λ d. not (those d.id.raw)) docs

-- the rows of a table that meet the test
abbrev pub met : TableId → (Row → Bool) → List Draft → List Row
met table test docs = filter test (filter_map (row_of table) docs)

-- none of those meets the test
abbrev pub Silent : TableId → (Row → Bool) → (ℕ → Bool) → List Draft → Type 0
Silent table test those docs =
    AllByRecursion (λ d. those d.id.raw ≡ true → meets_row test (row_of table d) ≡ false) docs

-- a document and a revision of it are alike among those or not
alike_id : (those : ℕ → Bool) (a b : ℕ) (v : Bool) → (a == b) ≡ true → those b ≡ v → those a ≡ v
alike_id those a b v same h = ap those (eqb-true a b same) ∙ h

module _ (table : TableId) (test : Row → Bool) (those : ℕ → Bool) where
  met_others_by : (d : Draft) (ds : List Draft) (b : Bool) → those d.id.raw ≡ b
      → (those d.id.raw ≡ true → meets_row test (row_of table d) ≡ false)
      → met table test ds ≡ met table test (others those ds)
      → met table test (d ∷ ds) ≡ met table test (cond (not b) (d ∷ others those ds) (others those ds))
  met_others_by d ds true e h ih = skip_row test (row_of table d) (filter_map (row_of table) ds) (h e) ∙ ih
  met_others_by d ds false e h ih =
      keep_row test (row_of table d) (filter_map (row_of table) ds) (filter_map (row_of table) (others those ds)) ih

  met_others : (docs : List Draft) → Silent table test those docs
      → met table test docs ≡ met table test (others those docs)
  met_others [] h = refl
  met_others (d ∷ ds) h = met_others_by d ds (those d.id.raw) refl h.0 (met_others ds h.1)

  others_put_by : (d p : Draft) (ds : List Draft) (b c : Bool) → those d.id.raw ≡ b → (d.id.raw == p.id.raw) ≡ c
      → those p.id.raw ≡ false
      → others those (put ds p) ≡ put (others those ds) p
      → others those (cond c (p ∷ ds) (d ∷ put ds p)) ≡ put (cond (not b) (d ∷ others those ds) (others those ds)) p
  others_put_by d p ds true true eb ec e ih =
      absurd (both_ways (those d.id.raw) (alike_id those d.id.raw p.id.raw false ec e) eb)
  others_put_by d p ds true false eb ec e ih =
      ap (λ b. cond (not b) (d ∷ others those (put ds p)) (others those (put ds p))) eb ∙ ih
  others_put_by d p ds false true eb ec e ih =
      ap (λ b. cond (not b) (p ∷ others those ds) (others those ds)) e
      ∙ ap (λ b. cond b (p ∷ others those ds) (d ∷ put (others those ds) p)) (sym ec)
  others_put_by d p ds false false eb ec e ih =
      ap (λ b. cond (not b) (d ∷ others those (put ds p)) (others those (put ds p))) eb ∙ ap (λ xs. d ∷ xs) ih
      ∙ ap (λ b. cond b (p ∷ others those ds) (d ∷ put (others those ds) p)) (sym ec)

  others_put : (docs : List Draft) (p : Draft) → those p.id.raw ≡ false
      → others those (put docs p) ≡ put (others those docs) p
  others_put [] p e = ap (λ b. cond (not b) (p ∷ []) []) e
  others_put (d ∷ ds) p e =
      others_put_by d p ds (those d.id.raw) (d.id.raw == p.id.raw) refl refl e (others_put ds p e)

  others_own_by : (d p : Draft) (ds : List Draft) (c : Bool) → (d.id.raw == p.id.raw) ≡ c → those p.id.raw ≡ true
      → others those (put ds p) ≡ others those ds
      → others those (cond c (p ∷ ds) (d ∷ put ds p)) ≡ others those (d ∷ ds)
  others_own_by d p ds true ec e ih =
      ap (λ b. cond (not b) (p ∷ others those ds) (others those ds)) e
      ∙ ap (λ b. cond (not b) (d ∷ others those ds) (others those ds))
      (sym (alike_id those d.id.raw p.id.raw true ec e))
  others_own_by d p ds false ec e ih = ap (λ xs. cond (not (those d.id.raw)) (d ∷ xs) xs) ih

  others_own : (docs : List Draft) (p : Draft) → those p.id.raw ≡ true → others those (put docs p) ≡ others those docs
  others_own [] p e = ap (λ b. cond (not b) (p ∷ []) []) e
  others_own (d ∷ ds) p e = others_own_by d p ds (d.id.raw == p.id.raw) refl e (others_own ds p e)

  -- revisions of those alone
  pub others_after : (docs new : List Draft) → AllByRecursion (λ (p : Draft). those p.id.raw ≡ true) new
      → others those (latest_from docs new) ≡ others those docs
  others_after docs [] h = refl
  others_after docs (p ∷ ps) h = others_after (put docs p) ps h.1 ∙ others_own docs p h.0

  silent_put_by : (d p : Draft) (ds : List Draft) (c : Bool) → Silent table test those (d ∷ ds)
      → those p.id.raw ≡ false
      → Silent table test those (put ds p) → Silent table test those (cond c (p ∷ ds) (d ∷ put ds p))
  silent_put_by d p ds true h e ih = (λ t. absurd (both_ways (those p.id.raw) e t), h.1)
  silent_put_by d p ds false h e ih = (h.0, ih)

  silent_put : (docs : List Draft) (p : Draft) → Silent table test those docs → those p.id.raw ≡ false
      → Silent table test those (put docs p)
  silent_put [] p h e = (λ t. absurd (both_ways (those p.id.raw) e t), tt)
  silent_put (d ∷ ds) p h e = silent_put_by d p ds (d.id.raw == p.id.raw) h e (silent_put ds p h.1 e)

  -- documents that differ in silent ones alone, before and after pending changes of others
  pub alike : (d e pending : List Draft) → others those d ≡ others those e → Silent table test those d
      → Silent table test those e
      → AllByRecursion (λ (p : Draft). those p.id.raw ≡ false) pending
      → met table test (latest_from d pending) ≡ met table test (latest_from e pending)
  alike d e [] same hd he apart = met_others d hd ∙ ap (met table test) same ∙ sym (met_others e he)
  alike d e (p ∷ ps) same hd he apart =
      alike (put d p) (put e p) ps (others_put d p apart.0 ∙ ap (λ xs. put xs p) same ∙ sym (others_put e p apart.0))
      (silent_put d p hd apart.0) (silent_put e p he apart.0) apart.1

pub latest_after : (docs xs ys : List Draft) → latest_from docs (xs ++ ys) ≡ latest_from (latest_from docs xs) ys
latest_after docs [] ys = refl
latest_after docs (x ∷ xs) ys = latest_after (put docs x) xs ys

-- ---- each shows its latest revision

abbrev pub Distinct : List Draft → Type 0
Distinct [] = Unit {0}
Distinct (d ∷ ds) = AllByRecursion (λ (x : Draft). (x.id.raw == d.id.raw) ≡ false) ds × Distinct ds

-- it is the latest of these revisions
abbrev pub IsLatest : List Recorded → Draft → Type 0
IsLatest rs d = option_map draft_of (latest_of rs d.id.raw) ≡ Some d

pub latest_of-append : (xs ys : List Recorded) (id : ℕ)
    → latest_of (xs ++ ys) id ≡ or_else (latest_of ys id) (latest_of xs id)
latest_of-append [] ys id = nothing (latest_of ys id) where
  nothing : (o : Option Recorded) → o ≡ or_else o None
  nothing None = refl
  nothing (Some r) = refl
latest_of-append (x ∷ xs) ys id =
    ap (λ o. or_else o (cond (x.revision.metadata.id.raw == id) (Some x) None)) (latest_of-append xs ys id)
    ∙ regroup (latest_of ys id) (latest_of xs id) (cond (x.revision.metadata.id.raw == id) (Some x) None) where
      regroup : (a b c : Option Recorded) → or_else (or_else a b) c ≡ or_else a (or_else b c)
      regroup None b c = refl
      regroup (Some r) b c = refl

symmetric : (a b : ℕ) (v : Bool) → (a == b) ≡ v → (b == a) ≡ v
symmetric a b true h = eq-eqb b a (sym (eqb-true a b h))
symmetric a b false h = ne_eqb b a (λ e. eqb-false a b h (sym e))

module _ (done : List Recorded) (r : Recorded) where
  own : IsLatest (done ++ r ∷ []) (draft_of r)
  own =
      ap (option_map draft_of) (latest_of-append done (r ∷ []) r.revision.metadata.id.raw
      ∙ ap (λ b. or_else (cond b (Some r) None) (latest_of done r.revision.metadata.id.raw))
      (eq-eqb r.revision.metadata.id.raw r.revision.metadata.id.raw refl))

  still_latest : (d : Draft) → (d.id.raw == r.revision.metadata.id.raw) ≡ false → IsLatest done d
      → IsLatest (done ++ r ∷ []) d
  still_latest d other h =
      ap (option_map draft_of) (latest_of-append done (r ∷ []) d.id.raw
      ∙ ap (λ b. or_else (cond b (Some r) None) (latest_of done d.id.raw))
      (symmetric d.id.raw r.revision.metadata.id.raw false other)) ∙ h

  all_still : (d : Draft) (ds : List Draft) → (d.id.raw == r.revision.metadata.id.raw) ≡ true
      → AllByRecursion (λ (x : Draft). (x.id.raw == d.id.raw) ≡ false) ds
      → AllByRecursion (IsLatest done) ds → AllByRecursion (IsLatest (done ++ r ∷ [])) ds
  all_still d [] same distinct h = tt
  all_still d (x ∷ xs) same distinct h = (
    still_latest x (subst (λ n. (x.id.raw == n) ≡ false)
        (eqb-true d.id.raw r.revision.metadata.id.raw same) distinct.0) h.0,
    all_still d xs same distinct.1 h.1,
  )

  put_latest_by : (d : Draft) (ds : List Draft) (b : Bool) → (d.id.raw == r.revision.metadata.id.raw) ≡ b
      → Distinct (d ∷ ds) → AllByRecursion (IsLatest done) (d ∷ ds)
      → AllByRecursion (IsLatest (done ++ r ∷ [])) (put ds (draft_of r))
      → AllByRecursion (IsLatest (done ++ r ∷ [])) (cond b (draft_of r ∷ ds) (d ∷ put ds (draft_of r)))
  put_latest_by d ds true e distinct h ih = (own, all_still d ds e distinct.0 h.1)
  put_latest_by d ds false e distinct h ih = (still_latest d e h.0, ih)

  put_latest : (docs : List Draft) → Distinct docs → AllByRecursion (IsLatest done) docs
      → AllByRecursion (IsLatest (done ++ r ∷ [])) (put docs (draft_of r))
  put_latest [] distinct h = (own, tt)
  put_latest (d ∷ ds) distinct h =
      put_latest_by d ds (d.id.raw == r.revision.metadata.id.raw) refl distinct h (put_latest ds distinct.1 h.1)

all_put_by : (P : Draft → Type 0) (d r : Draft) (ds : List Draft) (b : Bool) → AllByRecursion P (d ∷ ds) → P r
    → AllByRecursion P (put ds r) → AllByRecursion P (cond b (r ∷ ds) (d ∷ put ds r))
all_put_by P d r ds true h p ih = (p, h.1)
all_put_by P d r ds false h p ih = (h.0, ih)

pub all_put : (P : Draft → Type 0) (ds : List Draft) (r : Draft) → AllByRecursion P ds → P r
    → AllByRecursion P (put ds r)
all_put P [] r h p = (p, tt)
all_put P (d ∷ ds) r h p = all_put_by P d r ds (d.id.raw == r.id.raw) h p (all_put P ds r h.1 p)

same_others : (d r : Draft) (ds : List Draft) → (d.id.raw == r.id.raw) ≡ true
    → AllByRecursion (λ (x : Draft). (x.id.raw == d.id.raw) ≡ false) ds
    → AllByRecursion (λ (x : Draft). (x.id.raw == r.id.raw) ≡ false) ds
same_others d r ds e h =
    subst (λ n. AllByRecursion (λ (x : Draft). (x.id.raw == n) ≡ false) ds) (eqb-true d.id.raw r.id.raw e) h

distinct_put_by : (d r : Draft) (ds : List Draft) (b : Bool) → (d.id.raw == r.id.raw) ≡ b → Distinct (d ∷ ds)
    → Distinct (put ds r) → Distinct (cond b (r ∷ ds) (d ∷ put ds r))
distinct_put_by d r ds true e h ih = (same_others d r ds e h.0, h.1)
distinct_put_by d r ds false e h ih =
    (all_put (λ x. (x.id.raw == d.id.raw) ≡ false) ds r h.0 (symmetric d.id.raw r.id.raw false e), ih)

pub distinct_put : (ds : List Draft) (r : Draft) → Distinct ds → Distinct (put ds r)
distinct_put [] r h = (tt, tt)
distinct_put (d ∷ ds) r h = distinct_put_by d r ds (d.id.raw == r.id.raw) refl h (distinct_put ds r h.1)

latest_all : (done rs : List Recorded) (docs : List Draft) → Distinct docs → AllByRecursion (IsLatest done) docs
    → AllByRecursion (IsLatest (done ++ rs)) (latest_from docs (map draft_of rs))
latest_all done [] docs distinct h = subst (λ xs. AllByRecursion (IsLatest xs) docs) (sym (append-nil done)) h
latest_all done (r ∷ rs) docs distinct h =
    subst (λ xs. AllByRecursion (IsLatest xs) (latest_from (put docs (draft_of r)) (map draft_of rs)))
    (append_assoc done (r ∷ []) rs)
    (latest_all (done ++ r ∷ []) rs (put docs (draft_of r)) (distinct_put docs (draft_of r) distinct)
    (put_latest done r docs distinct h))

pub all_latest : (rs : List Recorded) → AllByRecursion (IsLatest rs) (latest (map draft_of rs))
all_latest rs = latest_all [] rs [] tt tt

-- behind a block: the block's own, or else the one before
pub latest_of_after : (s : State) (b : Block) (id : ℕ)
    → latest_of (after s b).revisions id ≡ or_else (latest_of (revisions_in b) id) (latest_of s.revisions id)
latest_of_after s b id =
    latest_of-append (revisions_after b.info.schema s.revisions) (revisions_in b) id
    ∙ ap (or_else (latest_of (revisions_in b) id)) (latest_kept b.info.schema s.revisions id)
