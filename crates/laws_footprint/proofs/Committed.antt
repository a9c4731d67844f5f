-- The rows of a committed view, and its stillness.
use Rattle.std.proofs.Common.{◌≡◌, ◌∙◌, ℕ, Bool, true, false, cond, ◌==◌, List, [], ◌∷◌, ◌++◌, codes, map, refl, rules, sym, ap, subst, Option, Some, None, option_map}
use Rattle.std.specs.Prelude.{option_and_then}
use Rattle.std.specs.List.{AllByRecursion, cons_option, filter, filter_map, list_any}
use Rattle.std.specs.Option.{option_map_or}
use Rattle.std.specs.Str.{bytes_eq}
use Rattle.std.proofs.lemmas.List.{append-nil}
use Rattle.std.proofs.lemmas.Slice.Eq.{bytes_eq-Decides}
use Rattle.ion_values.specs.declared.value.Body.TheFolds as values
use Rattle.ion_values.specs.declared.value.Field.{Field}
use Rattle.ion_values.specs.declared.value.Value.{Value}
use Rattle.ql_types.specs.Ids.{id_text}
use Rattle.ql_types.specs.declared.TableId.{TableId}
use Rattle.pql_model.specs.declared.tables.Row.{Row}
use Rattle.ledger_model.specs.CommittedViews.{committed_row, committed_view, row_showing}
use Rattle.ledger_model.specs.declared.block.Block.{Block}
use Rattle.ledger_model.specs.declared.block.Content.{Content}
use Rattle.ledger_model.specs.declared.block.Content.TheVariants.{Deleted, Kept, Redacted}
use Rattle.ledger_model.specs.declared.block.Draft.{Draft}
use Rattle.ledger_model.specs.declared.outcome.Item.{Item}
use Rattle.ledger_model.specs.Follows.{latest_of}
use Rattle.ledger_model.specs.Journal.{address_value, data_fields, hash_value, metadata_value, revision_value, structure}
use Rattle.ledger_model.specs.State.{Recorded, State, draft_of, state_from}
use Rattle.ledger_model.specs.Values.{field}
use Rattle.ledger_model.specs.Views.{latest, live, row_of}
use Rattle.ledger_model.specs.Meets.{data_in, meets_one}
use Rattle.laws_footprint.specs.Covered.{id_shown, shows_own_id}
use Rattle.laws_footprint.specs.Stillness.{block_revises}
use Rattle.laws_footprint.specs.Touches.{conflict_from, id_of}
use Rattle.laws_footprint.proofs.Documents.{IsLatest, all_latest, meets_row}
use Rattle.pql_model.proofs.Equality.{inside}
use Rattle.laws_footprint.proofs.Revised.{latest_behind, unrevised}
use Rattle.laws_footprint.proofs.Still.{still}

-- ---- what a revision shows

abbrev shown_with : Recorded → List Field → Value
shown_with r fields = structure (
    (field (codes "blockAddress") (address_value r.revision.address) ∷ field (codes "hash")
    (hash_value r.revision.hash) ∷ [])
    ++ fields ++ field (codes "metadata") (metadata_value r.revision.metadata) ∷ [])

id_with_none : (r : Recorded) → id_shown (shown_with r []) ≡ Some (id_text (id_of r))
id_with_none r = search (rules, values.the_lemmas)

id_with_data : (r : Recorded) (v : Value)
    → id_shown (shown_with r (field (codes "data") v ∷ [])) ≡ Some (id_text (id_of r))
id_with_data r v = search (rules, values.the_lemmas)

id_with_hash : (r : Recorded) (v : Value)
    → id_shown (shown_with r (field (codes "dataHash") v ∷ [])) ≡ Some (id_text (id_of r))
id_with_hash r v = search (rules, values.the_lemmas)

id_by : (r : Recorded) (content : Content) → id_shown (shown_with r (data_fields content)) ≡ Some (id_text (id_of r))
id_by r Deleted = id_with_none r
id_by r (Kept v) = id_with_data r v
id_by r (Redacted hash) = id_with_hash r (hash_value hash)

-- its metadata has its own id
pub own_id : (r : Recorded) → shows_own_id (row_showing r) ≡ true
own_id r =
    ap (λ o. option_map_or (λ t. bytes_eq t (id_text (id_of r))) o false) (id_by r r.revision.content)
    ∙ (bytes_eq-Decides (id_text (id_of r)) (id_text (id_of r))).1 refl

data_with : (r : Recorded) (v : Value) → data_in (shown_with r (field (codes "data") v ∷ [])) ≡ v
data_with r v = search (rules, values.the_lemmas)

data_is : (r : Recorded) (v : Value) → r.revision.content ≡ Kept v → data_in (revision_value r.revision) ≡ v
data_is r v e = ap (λ c. data_in (shown_with r (data_fields c))) e ∙ data_with r v

-- ---- a document with a row

row_by : (table : TableId) (d : Draft) (row : Row) (content : Content) (b : Bool) → (d.table.raw == table.raw) ≡ b
    → d.content ≡ content → cond b (live d.id content) None ≡ Some row
    → ((d.table.raw == table.raw) ≡ true) × (record { id = d.id; value = row.value } ≡ row)
    × (d.content ≡ Kept row.value)
row_by table d row content false e is h = cc
row_by table d row Deleted true e is h = cc
row_by table d row (Redacted hash) true e is h = cc
row_by table d row (Kept v) true e is h =
    let same : record { id = d.id; value = v } ≡ row = inside _ row h in
    let value : v ≡ row.value = ap (λ (x : Row). x.value) same in
    (e, ap (λ x. record { id = d.id; value = x }) (sym value) ∙ same, is ∙ ap Kept value)

pub row_is : (table : TableId) (d : Draft) (row : Row) → row_of table d ≡ Some row
    → ((d.table.raw == table.raw) ≡ true) × (record { id = d.id; value = row.value } ≡ row)
    × (d.content ≡ Kept row.value)
row_is table d row h = row_by table d row d.content (d.table.raw == table.raw) refl refl h

pub latest_revision : (rs : List Recorded) (id : ℕ) (d : Draft) (o : Option Recorded) → latest_of rs id ≡ o
    → option_map draft_of o ≡ Some d
    → (r : Recorded) × (latest_of rs id ≡ Some r) × (draft_of r ≡ d)
latest_revision rs id d None e h = cc
latest_revision rs id d (Some r) e h = (r, e, inside (draft_of r) d h)

-- the document of a revision that is shown
abbrev pub document : Row → Row
document row = record { id = row.id; value = data_in row.value }

pub showing : (rs : List Recorded) (table : TableId) (d : Draft) (row : Row) → IsLatest rs d
    → row_of table d ≡ Some row
    → (r : Recorded) × (latest_of rs row.id.raw ≡ Some r) × (document (row_showing r) ≡ row) × (draft_of r ≡ d)
showing rs table d row is h =
    let w = latest_revision rs d.id.raw d (latest_of rs d.id.raw) refl is in
    let k = row_is table d row h in
    let id : d.id ≡ row.id = ap (λ (x : Row). x.id) k.1 in
    let content : (w.0).revision.content ≡ Kept row.value = ap (λ (x : Draft). x.content) w.2 ∙ k.2 in (
      w.0,
      subst (λ i. latest_of rs i ≡ Some w.0) (ap (λ (x : Row). x.id.raw) k.1) w.1,
      ap (λ v. record { id = (w.0).revision.metadata.id; value = v }) (data_is w.0 row.value content)
          ∙ ap (λ i. record { id = i; value = row.value }) (ap (λ (x : Draft). x.id) w.2) ∙ k.1,
      w.2,
    )

-- ---- the view is that of the documents' rows

module _ (table : TableId) (test : Row → Bool) (rs : List Recorded) where
  abbrev passes : Row → Bool
  passes row = test (document row)

  abbrev revision_row : Row → Option Row
  revision_row row = option_map row_showing (latest_of rs row.id.raw)

  one_kept : (r : Recorded) (row : Row) (rows back : List Row) (b : Bool) → latest_of rs row.id.raw ≡ Some r
      → back ≡ filter_map revision_row rows
      → cond b (row_showing r ∷ back) back ≡ filter_map revision_row (cond b (row ∷ rows) rows)
  one_kept r row rows back true e ih = ap (λ xs. row_showing r ∷ xs) ih
      ∙ ap (λ o. cons_option (option_map row_showing o) (filter_map revision_row rows)) (sym e)
  one_kept r row rows back false e ih = ih

  one_document : (d : Draft) (ds : List Draft) (o : Option Row) → IsLatest rs d → row_of table d ≡ o
      → filter passes (filter_map (committed_row table rs) ds)
      ≡ filter_map revision_row (filter test (filter_map (row_of table) ds))
      → filter passes (cons_option (option_and_then revision_row o) (filter_map (committed_row table rs) ds))
      ≡ filter_map revision_row (filter test (cons_option o (filter_map (row_of table) ds)))
  one_document d ds None is e ih = ih
  one_document d ds (Some row) is e ih =
      let w = showing rs table d row is e in
      let more = filter_map (committed_row table rs) ds in
      ap (λ x. filter passes (cons_option (option_map row_showing x) more)) w.1
      ∙ ap (λ b. cond b (row_showing w.0 ∷ filter passes more) (filter passes more)) (ap test w.2)
      ∙ one_kept w.0 row (filter test (filter_map (row_of table) ds)) (filter passes more) (test row) w.1 ih

  by_documents : (docs : List Draft) → AllByRecursion (IsLatest rs) docs
      → filter passes (filter_map (committed_row table rs) docs)
      ≡ filter_map revision_row (filter test (filter_map (row_of table) docs))
  by_documents [] all = refl
  by_documents (d ∷ ds) all = one_document d ds (row_of table d) all.0 refl (by_documents ds all.1)

-- ---- stillness

rows_kept : (f g : Row → Option Row) (rows : List Row) → AllByRecursion (λ row. f row ≡ g row) rows
    → filter_map f rows ≡ filter_map g rows
rows_kept f g [] h = refl
rows_kept f g (r ∷ rows) h = ap (λ o. cons_option o (filter_map f rows)) h.0
    ∙ ap (cons_option (g r)) (rows_kept f g rows h.1)

module _ (m : ℕ) (s : State) (later : List Block) (table : TableId) (items : List Item)
    (none : conflict_from m s later items ≡ None) where
  abbrev now : State
  now = state_from s later

  abbrev Same : Row → Type 0
  Same row =
      option_map row_showing (latest_of now.revisions row.id.raw)
      ≡ option_map row_showing (latest_of s.revisions row.id.raw)

  same_row : (d : Draft) (row : Row) → IsLatest s.revisions d → row_of table d ≡ Some row
      → meets_one table items row ≡ true → Same row
  same_row d row is shows met_here =
      let id : d.id.raw ≡ row.id.raw = ap (λ (x : Row). x.id.raw) (row_is table d row shows).1 in
      let not = unrevised m s later table items d none is (ap (meets_row (meets_one table items)) shows ∙ met_here) in
      ap (option_map row_showing) (latest_behind s later row.id.raw
      (subst (λ n. list_any (block_revises n) later ≡ false) id not))

  one_same : (row : Row) (rows : List Row) (b : Bool) → (b ≡ true → Same row) → AllByRecursion Same rows
      → AllByRecursion Same (cond b (row ∷ rows) rows)
  one_same row rows true h all = (h refl, all)
  one_same row rows false h all = all

  document_same : (d : Draft) (o : Option Row) (rows : List Row) → IsLatest s.revisions d → row_of table d ≡ o
      → AllByRecursion Same (filter (meets_one table items) rows)
      → AllByRecursion Same (filter (meets_one table items) (cons_option o rows))
  document_same d None rows is e all = all
  document_same d (Some row) rows is e all =
      one_same row (filter (meets_one table items) rows) (meets_one table items row) (same_row d row is e) all

  all_same : (docs : List Draft) → AllByRecursion (IsLatest s.revisions) docs
      → AllByRecursion Same (filter (meets_one table items) (filter_map (row_of table) docs))
  all_same [] h = tt
  all_same (d ∷ ds) h = document_same d (row_of table d) (filter_map (row_of table) ds) h.0 refl (all_same ds h.1)

  abbrev docs_at : State → List Draft
  docs_at x = latest (map draft_of x.revisions)

  documents_same : filter (meets_one table items) (filter_map (row_of table) (docs_at now))
      ≡ filter (meets_one table items) (filter_map (row_of table) (docs_at s))
  documents_same =
      ap (λ ds. filter (meets_one table items) (filter_map (row_of table) (latest ds)))
      (sym (append-nil (map draft_of now.revisions)))
      ∙ still m s later table items [] none tt
      ∙ ap (λ ds. filter (meets_one table items) (filter_map (row_of table) (latest ds)))
      (append-nil (map draft_of s.revisions))

  -- the rows whose documents meet an item
  pub committed_still : filter (λ row. meets_one table items (document row)) (committed_view table now.revisions)
      ≡ filter (λ row. meets_one table items (document row)) (committed_view table s.revisions)
  committed_still =
      by_documents table (meets_one table items) now.revisions (docs_at now) (all_latest now.revisions)
      ∙ ap (filter_map (λ (row : Row). option_map row_showing (latest_of now.revisions row.id.raw))) documents_same
      ∙ rows_kept (λ (row : Row). option_map row_showing (latest_of now.revisions row.id.raw))
      (λ (row : Row). option_map row_showing (latest_of s.revisions row.id.raw))
      (filter (meets_one table items) (filter_map (row_of table) (docs_at s)))
      (all_same (docs_at s) (all_latest s.revisions))
      ∙ sym (by_documents table (meets_one table items) s.revisions (docs_at s) (all_latest s.revisions))
