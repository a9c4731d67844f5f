-- Rows of documents that are named by their ids.
use Rattle.std.proofs.Common.{◌≡◌, ℕ, ◌==◌, Bool, true, false, List, [], ◌∷◌, ◌++◌, map, Option, Some, None, refl, sym, ◌∙◌, ap, subst, eq-eqb}
use Rattle.std.specs.Prelude.{◌||◌, option_and_then, option_map, if◌then◌else◌}
use Rattle.std.specs.List.{cons_option, filter, filter_map, flat_map}
use Rattle.std.proofs.lemmas.Bool.{eqb-true}
use Rattle.std.proofs.lemmas.List.{append-nil}
use Rattle.std.proofs.lemmas.List.Folds.{list_any-append}
use Rattle.ql_types.specs.declared.DocId.{DocId}
use Rattle.ql_types.specs.declared.TableId.{TableId}
use Rattle.ion_values.specs.declared.value.Key.{Key}
use Rattle.pql_model.specs.declared.tables.Probe.{Probe}
use Rattle.pql_model.specs.declared.tables.Probe.TheVariants as probe
use Rattle.pql_model.specs.declared.tables.Row.{Row}
use Rattle.pql_model.specs.Tables.{has_one, meeting, meets}
use Rattle.ledger_model.specs.declared.block.Content.{Content}
use Rattle.ledger_model.specs.declared.block.Content.TheVariants.{Deleted, Kept, Redacted}
use Rattle.ledger_model.specs.declared.block.Draft.{Draft}
use Rattle.ledger_model.specs.CommittedViews.{committed_row, committed_view, row_showing}
use Rattle.ledger_model.specs.Follows.{latest_of}
use Rattle.ledger_model.specs.Script.{or_else}
use Rattle.ledger_model.specs.State.{Recorded, draft_of}
use Rattle.ledger_model.specs.Views.{latest, live, row_of, user_view}
use Rattle.versions.specs.Lookups.{is_among, those_among}
use Rattle.view_rows.specs.Named.{AreNamed, rows_among}

-- ---- rows of named documents are the named ones of all rows

among-by : (b : Bool) (o : Option Row) (ids : List DocId) (rest rows : List Row) → ((row : Row) → o ≡ Some row → is_among ids row.id.raw ≡ b)
    → rest ≡ rows_among ids rows → (if b then cons_option o rest else rest) ≡ rows_among ids (cons_option o rows)
among-by true None ids rest rows of is = is
among-by false None ids rest rows of is = is
among-by true (Some row) ids rest rows of is =
    ap (λ (rs : List Row). row ∷ rs) is ∙ ap (λ (b : Bool). if b then row ∷ rows_among ids rows else rows_among ids rows) (sym (of row refl))
among-by false (Some row) ids rest rows of is =
    is ∙ ap (λ (b : Bool). if b then row ∷ rows_among ids rows else rows_among ids rows) (sym (of row refl))

module _ (shown : Draft → Option Row) (of : (d : Draft) (row : Row) → shown d ≡ Some row → row.id.raw ≡ d.id.raw) (ids : List DocId) where
  mapped-if : (b : Bool) (d : Draft) (ds : List Draft)
      → filter_map shown (if b then d ∷ ds else ds) ≡ (if b then cons_option (shown d) (filter_map shown ds) else filter_map shown ds)
  mapped-if true d ds = refl
  mapped-if false d ds = refl

  pub among_those : (ds : List Draft) → filter_map shown (those_among ids ds) ≡ rows_among ids (filter_map shown ds)
  among_those [] = refl
  among_those (d ∷ ds) =
      mapped-if (is_among ids d.id.raw) d (those_among ids ds)
      ∙ among-by (is_among ids d.id.raw) (shown d) ids (filter_map shown (those_among ids ds)) (filter_map shown ds)
      (λ row is. ap (is_among ids) (of d row is)) (among_those ds)

-- ---- a row is of its document

live-id : (d : Draft) (c : Content) (row : Row) → live d.id c ≡ Some row → row.id.raw ≡ d.id.raw
live-id d Deleted row is = cc
live-id d (Kept v) row is = cc
live-id d (Redacted hash) row is = cc

row-id : (b : Bool) (d : Draft) (row : Row) → (if b then live d.id d.content else None) ≡ Some row → row.id.raw ≡ d.id.raw
row-id true d row is = live-id d d.content row is
row-id false d row is = cc

pub user_id : (table : TableId) (d : Draft) (row : Row) → row_of table d ≡ Some row → row.id.raw ≡ d.id.raw
user_id table d row is = row-id (d.table.raw == table.raw) d row is

inside : {A : Type 0} (a b : A) → Some a ≡ Some b → a ≡ b
inside a b e = cc

last-step : (o : Option Recorded) (b : Bool) (r x : Recorded) (id : ℕ) → (r.revision.metadata.id.raw == id) ≡ b
    → ((y : Recorded) → o ≡ Some y → y.revision.metadata.id.raw ≡ id) → or_else o (if b then Some r else None) ≡ Some x → x.revision.metadata.id.raw ≡ id
last-step (Some y) b r x id same of is = ap (λ (z : Recorded). z.revision.metadata.id.raw) (sym (inside y x is)) ∙ of y refl
last-step None true r x id same of is =
    ap (λ (z : Recorded). z.revision.metadata.id.raw) (sym (inside r x is)) ∙ eqb-true r.revision.metadata.id.raw id same
last-step None false r x id same of is = cc

last-id : (rs : List Recorded) (id : ℕ) (x : Recorded) → latest_of rs id ≡ Some x → x.revision.metadata.id.raw ≡ id
last-id [] id x is = cc
last-id (r ∷ rs) id x is = last-step (latest_of rs id) (r.revision.metadata.id.raw == id) r x id refl (λ y e. last-id rs id y e) is

showing-id : (o : Option Recorded) (id : ℕ) (row : Row) → ((x : Recorded) → o ≡ Some x → x.revision.metadata.id.raw ≡ id)
    → option_map row_showing o ≡ Some row → row.id.raw ≡ id
showing-id None id row of is = cc
showing-id (Some x) id row of is = ap (λ (r : Row). r.id.raw) (sym (inside (row_showing x) row is)) ∙ of x refl

committed-by : (revisions : List Recorded) (o : Option Row) (d : Draft) (row : Row) → ((shown : Row) → o ≡ Some shown → shown.id.raw ≡ d.id.raw)
    → option_and_then (λ (shown : Row). option_map row_showing (latest_of revisions shown.id.raw)) o ≡ Some row → row.id.raw ≡ d.id.raw
committed-by revisions None d row of is = cc
committed-by revisions (Some shown) d row of is =
    showing-id (latest_of revisions shown.id.raw) shown.id.raw row (λ x e. last-id revisions shown.id.raw x e) is ∙ of shown refl

pub committed_id : (table : TableId) (revisions : List Recorded) (d : Draft) (row : Row) → committed_row table revisions d ≡ Some row → row.id.raw ≡ d.id.raw
committed_id table revisions d row is = committed-by revisions (row_of table d) d row (λ shown e. user_id table d shown e) is

-- ---- rows that a test leaves out need no look

named-by : (a b : Bool) (row : Row) (ids : List DocId) (test : Row → Bool) (rows : List Row) → test row ≡ a → is_among ids row.id.raw ≡ b
    → (test row ≡ true → is_among ids row.id.raw ≡ true) → filter test (rows_among ids rows) ≡ filter test rows
    → filter test (if b then row ∷ rows_among ids rows else rows_among ids rows) ≡ (if a then row ∷ filter test rows else filter test rows)
named-by a true row ids test rows passes is named ih =
    ap (λ (c : Bool). if c then row ∷ filter test (rows_among ids rows) else filter test (rows_among ids rows)) passes
    ∙ ap (λ (rs : List Row). if a then row ∷ rs else rs) ih
named-by true false row ids test rows passes is named ih = let bad : false ≡ true = sym is ∙ named passes in cc
named-by false false row ids test rows passes is named ih = ih

pub named_alone : (ids : List DocId) (test : Row → Bool) (rows : List Row) → AreNamed ids test rows → filter test (rows_among ids rows) ≡ filter test rows
named_alone ids test [] named = refl
named_alone ids test (row ∷ rows) named =
    named-by (test row) (is_among ids row.id.raw) row ids test rows refl refl named.0 (named_alone ids test rows named.1)

-- ---- which documents a probe names

pub all_named : (ids : List DocId) (test : Row → Bool) (rows : List Row) → ((row : Row) → test row ≡ true → is_among ids row.id.raw ≡ true) → AreNamed ids test rows
all_named ids test [] each = tt
all_named ids test (row ∷ rows) each = (each row, all_named ids test rows each)

pub or-left : (a b : Bool) → a ≡ true → (a || b) ≡ true
or-left true b e = refl
or-left false b e = cc

pub or-right : (a b : Bool) → b ≡ true → (a || b) ≡ true
or-right true b e = refl
or-right false b e = e

pub named_more : (id : DocId) (ids : List DocId) (test : Row → Bool) (rows : List Row) → AreNamed ids test rows → AreNamed (id ∷ ids) test rows
named_more id ids test [] named = tt
named_more id ids test (row ∷ rows) named =
    ((λ passes. or-right (row.id.raw == id.raw) (is_among ids row.id.raw) (named.0 passes)), named_more id ids test rows named.1)

-- the document of the id
pub id_named : (id : DocId) (rows : List Row) → AreNamed (id ∷ []) (meets (probe.Id id)) rows
id_named id rows = all_named (id ∷ []) (meets (probe.Id id)) rows (λ row same. or-left (row.id.raw == id.raw) false same)

abbrev pub ids_of : List Row → List DocId
ids_of rows = map (λ row. row.id) rows

passing-by : (b : Bool) (row : Row) (test : Row → Bool) (rows : List Row) → test row ≡ b → AreNamed (ids_of (filter test rows)) test rows
    → AreNamed (ids_of (if b then row ∷ filter test rows else filter test rows)) test (row ∷ rows)
passing-by true row test rows passes named = (
  (λ again. or-left (row.id.raw == row.id.raw) (is_among (ids_of (filter test rows)) row.id.raw) (eq-eqb row.id.raw row.id.raw refl)),
  named_more row.id (ids_of (filter test rows)) test rows named,
)
passing-by false row test rows passes named = ((λ again. let bad : false ≡ true = sym passes ∙ again in cc), named)

-- the documents whose rows pass
pub passing_named : (test : Row → Bool) (rows : List Row) → AreNamed (ids_of (filter test rows)) test rows
passing_named test [] = tt
passing_named test (row ∷ rows) = passing-by (test row) row test rows refl (passing_named test rows)

-- the documents of several ids, and those whose rows have one of several keys
pub ids_named : (ids : List DocId) (rows : List Row) → AreNamed ids (meets (probe.Ids ids)) rows
ids_named ids rows = all_named ids (meets (probe.Ids ids)) rows (λ row met. met)

one_among : (ids more : List DocId) (id : ℕ) (a b : Bool) → (a ≡ true → is_among ids id ≡ true)
    → (b ≡ true → is_among more id ≡ true) → (a || b) ≡ true → is_among (ids ++ more) id ≡ true
one_among ids more id true b h k met =
    list_any-append (λ (i : DocId). id == i.raw) ids more ∙ or-left (is_among ids id) (is_among more id) (h refl)
one_among ids more id false b h k met =
    list_any-append (λ (i : DocId). id == i.raw) ids more ∙ or-right (is_among ids id) (is_among more id) (k met)

either_named : (ids more : List DocId) (test other : Row → Bool) (rows : List Row) → AreNamed ids test rows
    → AreNamed more other rows → AreNamed (ids ++ more) (λ row. test row || other row) rows
either_named ids more test other [] h k = tt
either_named ids more test other (row ∷ rows) h k =
    (one_among ids more row.id.raw (test row) (other row) h.0 k.0, either_named ids more test other rows h.1 k.1)

none_met : (test : Row → Bool) (rows : List Row) → ((row : Row) → test row ≡ false) → AreNamed [] test rows
none_met test rows none = all_named [] test rows (λ row met. let bad : false ≡ true = sym (none row) ∙ met in cc)

pub keys_named : (field : List ℕ) (keys : List Key) (rows : List Row)
    → AreNamed (flat_map (λ k. ids_of (meeting (probe.Key field k) rows)) keys) (meets (probe.Keys field keys)) rows
keys_named field [] rows = none_met (meets (probe.Keys field [])) rows (λ row. refl)
keys_named field (k ∷ keys) rows =
    either_named (ids_of (meeting (probe.Key field k) rows)) _ (meets (probe.Key field k))
    (meets (probe.Keys field keys)) rows (passing_named (meets (probe.Key field k)) rows) (keys_named field keys rows)

-- without a key in the field there is none of several
pub none_found : (keys : List Key) → has_one keys None ≡ false
none_found [] = refl
none_found (k ∷ keys) = none_found keys

pub ids_asked : (ids : List DocId) (p : Probe) (some : List DocId) (rows : List Row) → p ≡ probe.Ids ids → some ≡ ids
    → AreNamed some (meets p) rows
ids_asked ids p some rows is those =
    subst (λ (q : Probe). AreNamed some (meets q) rows) (sym is)
    (subst (λ (xs : List DocId). AreNamed xs (meets (probe.Ids ids)) rows) (sym those) (ids_named ids rows))

pub keys_asked : (field : List ℕ) (keys : List Key) (p : Probe) (ids : List DocId) (rows : List Row)
    → p ≡ probe.Keys field keys → ids ≡ flat_map (λ k. ids_of (meeting (probe.Key field k) rows)) keys
    → AreNamed ids (meets p) rows
keys_asked field keys p ids rows is those =
    subst (λ (q : Probe). AreNamed ids (meets q) rows) (sym is)
    (subst (λ (some : List DocId). AreNamed some (meets (probe.Keys field keys)) rows) (sym those)
    (keys_named field keys rows))

-- the same of a probe at hand
pub id_asked : (id : DocId) (p : Probe) (ids : List DocId) (rows : List Row) → p ≡ probe.Id id → ids ≡ id ∷ [] → AreNamed ids (meets p) rows
id_asked id p ids rows is alone =
    subst (λ (q : Probe). AreNamed ids (meets q) rows) (sym is)
    (subst (λ (some : List DocId). AreNamed some (meets (probe.Id id)) rows) (sym alone) (id_named id rows))

pub key_asked : (field : List ℕ) (key : Key) (p : Probe) (ids : List DocId) (rows : List Row) → p ≡ probe.Key field key
    → ids ≡ ids_of (meeting (probe.Key field key) rows) → AreNamed ids (meets p) rows
key_asked field key p ids rows is those =
    subst (λ (q : Probe). AreNamed ids (meets q) rows) (sym is)
    (subst (λ (some : List DocId). AreNamed some (meets (probe.Key field key)) rows) (sym those) (passing_named (meets (probe.Key field key)) rows))

-- ---- the views

pub rows_of_named : (table : TableId) (revisions : List Recorded) (ids : List DocId) (p : Probe) (documents : List Draft) (rows : List Row)
    → AreNamed ids (meets p) (filter_map (row_of table) (latest (map draft_of revisions))) → documents ≡ those_among ids (latest (map draft_of revisions))
    → rows ≡ meeting p (filter_map (row_of table) documents) → rows ≡ meeting p (user_view table (map draft_of revisions) [])
rows_of_named table revisions ids p documents rows named those is =
    is ∙ ap (λ (ds : List Draft). meeting p (filter_map (row_of table) ds)) those
    ∙ ap (meeting p) (among_those (row_of table) (user_id table) ids (latest (map draft_of revisions)))
    ∙ named_alone ids (meets p) (filter_map (row_of table) (latest (map draft_of revisions))) named
    ∙ ap (λ (ds : List Draft). meeting p (filter_map (row_of table) (latest ds))) (sym (append-nil (map draft_of revisions)))

-- the rows of a document in a committed view
pub committed_alone : (id : DocId) (p : Probe) (rows some : List Row) → p ≡ probe.Id id → some ≡ meeting p (rows_among (id ∷ []) rows) → some ≡ meeting p rows
committed_alone id p rows some is some_is =
    some_is ∙ ap (λ (q : Probe). meeting q (rows_among (id ∷ []) rows)) is
    ∙ named_alone (id ∷ []) (meets (probe.Id id)) rows (id_named id rows) ∙ ap (λ (q : Probe). meeting q rows) (sym is)

pub committed_among : (table : TableId) (revisions : List Recorded) (ids : List DocId)
    → filter_map (committed_row table revisions) (those_among ids (latest (map draft_of revisions))) ≡ rows_among ids (committed_view table revisions)
committed_among table revisions ids = among_those (committed_row table revisions) (committed_id table revisions) ids (latest (map draft_of revisions))

-- the rows of several documents in a committed view
pub committed_some : (ids : List DocId) (p : Probe) (rows some : List Row) → p ≡ probe.Ids ids
    → some ≡ meeting p (rows_among ids rows) → some ≡ meeting p rows
committed_some ids p rows some is some_is =
    some_is ∙ ap (λ (q : Probe). meeting q (rows_among ids rows)) is
    ∙ named_alone ids (meets (probe.Ids ids)) rows (ids_named ids rows) ∙ ap (λ (q : Probe). meeting q rows) (sym is)
