-- What a source is asked for gives the rows that show one of the items.
use Rattle.std.proofs.Common.{◌≡◌, ◌∙◌, ℕ, ◌+◌, ◌<◌, ◌==◌, ◌&&◌, ◌||◌, cond, Bool, true, false, List, [], ◌∷◌, ◌++◌, length, get_or, map, take, refl, sym, ap, subst, Option, Some, None, option_map}
use Rattle.std.specs.Prelude.{option_and_then, if◌then◌else◌}
use Rattle.std.specs.List.{AllByRecursion, cons_option, filter, filter_map, list_any}
use Rattle.std.specs.Option.{IfSome}
use Rattle.std.proofs.lemmas.Bool.{eq-eqb}
use Rattle.std.proofs.lemmas.List.{map-append, take_more}
use Rattle.std.proofs.lemmas.List.Elements.{filter_agree}
use Rattle.std.proofs.lemmas.List.Folds.{list_any_at}
use Rattle.ion_values.specs.declared.value.Key.{Key}
use Rattle.ion_values.specs.declared.value.Value.{Value}
use Rattle.ql_types.specs.declared.DocId.{DocId}
use Rattle.ql_types.specs.declared.TableId.{TableId}
use Rattle.pql_model.specs.declared.statement.SourceKind.{SourceKind}
use Rattle.pql_model.specs.declared.statement.SourceKind.TheVariants as source
use Rattle.pql_model.specs.declared.tables.Probe.{Probe}
use Rattle.pql_model.specs.declared.tables.Probe.TheVariants as probe
use Rattle.pql_model.specs.declared.tables.Row.{Row}
use Rattle.pql_model.specs.declared.tables.View.TheVariants as view
use Rattle.pql_model.specs.From.{rows_given}
use Rattle.pql_model.specs.Steps.{field_of}
use Rattle.pql_model.specs.Tables.{has_key, is_committed, key_in, meeting, meets, table_named}
use Rattle.ledger_model.specs.declared.block.Draft.{Draft}
use Rattle.ledger_model.specs.declared.outcome.Item.{Item}
use Rattle.ledger_model.specs.declared.outcome.Item.TheVariants as item
use Rattle.ledger_model.specs.CommittedViews.{committed_row, committed_view, row_showing}
use Rattle.ledger_model.specs.Follows.{latest_of}
use Rattle.ledger_model.specs.Meets.{data_in, document_shown, meets_one, shows_metadata, shows_one}
use Rattle.ledger_model.specs.Meets as met
use Rattle.ledger_model.specs.State as state
use Rattle.ledger_model.specs.State.{Recorded, State, active_table, draft_of}
use Rattle.ledger_model.specs.Statements.{table_in}
use Rattle.ledger_model.specs.Views.{latest, row_of}
use Rattle.laws_footprint.specs.Covered.{is_no_history}
use Rattle.laws_footprint.proofs.Committed.{document, showing}
use Rattle.laws_footprint.proofs.Documents.{IsLatest, all_latest}
use Rattle.laws_footprint.proofs.Sources.{committed_shown}
use Rattle.versions.specs.Held.{table_of}
use Rattle.versions.specs.Lookups.{is_among}
use Rattle.view_rows.specs.Named.{AreNamed}
use Rattle.txn_core.specs.Narrow.{HaveKeys}
use Rattle.txn_core.specs.declared.candidates.Plan.{Plan}
use Rattle.txn_core.specs.declared.candidates.Plan.TheVariants as plan
use Rattle.txn_core.specs.declared.table_views.TableViews.{TableViews}
use Rattle.txn_core.specs.Reading.{Fits, IsEnough, IsExact, documents_or_all}
use Rattle.txn_core.specs.TableViews.{documents_in, rows_of_active, views_among, views_in}

-- ---- rows that are asked for and then tested

kept_by : (p q : Row → Bool) (row : Row) (rows : List Row) (b c : Bool) → q row ≡ b → p row ≡ c → (p row ≡ true → q row ≡ true)
    → filter p (filter q rows) ≡ filter p rows
    → filter p (cond b (row ∷ filter q rows) (filter q rows)) ≡ cond c (row ∷ filter p rows) (filter p rows)
kept_by p q row rows true true asked shown h ih =
    ap (λ b. cond b (row ∷ filter p (filter q rows)) (filter p (filter q rows))) shown ∙ ap (λ rs. row ∷ rs) ih
kept_by p q row rows true false asked shown h ih =
    ap (λ b. cond b (row ∷ filter p (filter q rows)) (filter p (filter q rows))) shown ∙ ih
kept_by p q row rows false true asked shown h ih = let bad : true ≡ false = sym (h shown) ∙ asked in cc
kept_by p q row rows false false asked shown h ih = ih

enough_kept : (p q : Row → Bool) (rows : List Row) → AllByRecursion (λ (row : Row). p row ≡ true → q row ≡ true) rows
    → filter p (filter q rows) ≡ filter p rows
enough_kept p q [] all = refl
enough_kept p q (row ∷ rows) all = kept_by p q row rows (q row) (p row) refl refl all.0 (enough_kept p q rows all.1)

each : (P : Row → Type 0) (rows : List Row) → ((row : Row) → P row) → AllByRecursion P rows
each P [] h = tt
each P (row ∷ rows) h = (h row, each P rows h)

module _ (tables : List state.Table) (base : State) (documents : List Draft) (params : List Value) (table : TableId) (items : List Item) where
  abbrev rows_in : SourceKind → List Row
  rows_in kind = rows_given (views_among tables base documents) params kind

  abbrev Shown : SourceKind → Probe → Type 0
  Shown kind p = filter (shows_one kind table items) (meeting p (rows_in kind)) ≡ filter (shows_one kind table items) (rows_in kind)

  committed_rows : (b : Bool) (o : Option TableId) → b ≡ true → o ≡ Some table
      → rows_of_active base documents (if b then view.Committed else view.User) o ≡ committed_view table base.revisions
  committed_rows b o is at =
      ap (λ c. rows_of_active base documents (if c then view.Committed else view.User) o) is
      ∙ ap (rows_of_active base documents view.Committed) at

  committed_enough : (kind : SourceKind) (p : Probe) → option_and_then (active_table tables) (table_in kind) ≡ Some table
      → shows_metadata kind ≡ true → is_no_history kind ≡ true
      → AllByRecursion (λ (row : Row). shows_one kind table items row ≡ true → meets p row ≡ true) (committed_view table base.revisions)
      → Shown kind p
  committed_enough (source.Table name) p at shown past all =
      enough_kept (shows_one (source.Table name) table items) (meets p) (rows_in (source.Table name))
      (subst (AllByRecursion (λ (row : Row). shows_one (source.Table name) table items row ≡ true → meets p row ≡ true))
      (sym (committed_rows (is_committed name) (active_table tables (table_named name)) shown at)) all)
  committed_enough (source.History name start end) p at shown past all = cc
  committed_enough (source.Path path) p at shown past all = cc

  plan_enough : (kind : SourceKind) (p : Probe) → option_and_then (active_table tables) (table_in kind) ≡ Some table
      → IsEnough base kind table items p → Shown kind p
  plan_enough kind probe.All at enough =
      enough_kept (shows_one kind table items) (meets probe.All) (rows_in kind)
      (each (λ (row : Row). shows_one kind table items row ≡ true → true ≡ true) (rows_in kind) (λ row shown. refl))
  plan_enough kind (probe.Id id) at enough = committed_enough kind (probe.Id id) at enough.0 enough.1 enough.2
  plan_enough kind (probe.Key field k) at enough = committed_enough kind (probe.Key field k) at enough.0 enough.1 enough.2
  plan_enough kind (probe.Ids ids) at enough = committed_enough kind (probe.Ids ids) at enough.0 enough.1 enough.2
  plan_enough kind (probe.Keys field keys) at enough = committed_enough kind (probe.Keys field keys) at enough.0 enough.1 enough.2

  plan_exact : (kind : SourceKind) (p : Probe) → IsExact kind table items p
      → meeting p (rows_in kind) ≡ filter (shows_one kind table items) (rows_in kind)
  plan_exact kind p exact = filter_agree (meets p) (shows_one kind table items) exact (rows_in kind)

-- ---- the whole table

pub exact_table : (kind : SourceKind) (table : TableId) (items : List Item) (i : ℕ) (it : Item)
    → i < length items → it ≡ get_or items i it → it ≡ item.Table table → IsExact kind table items probe.All
exact_table kind table items i it within this is = λ row.
    let meets_it : met.meets table (get_or items i it) (document_shown kind row) ≡ true =
    ap (λ (x : Item). met.meets table x (document_shown kind row)) (sym this ∙ is) ∙ eq-eqb table.raw table.raw refl in
    sym (list_any_at (λ (x : Item). met.meets table x (document_shown kind row)) items i it within meets_it)

-- ---- documents

one_table : (a b : TableId) → a.raw ≡ b.raw → a ≡ b
one_table a b e = let make : ℕ → TableId = λ n. record { raw = n } in ap make e

and_same : (b c : Bool) → b ≡ true → (b && c) ≡ c
and_same true c is = refl
and_same false c is = cc

documents_meet : (table : TableId) (row shown : Row) (ids : List DocId) → shown.id ≡ row.id
    → list_any (λ (id : DocId). row.id.raw == id.raw) ids ≡ list_any (λ (x : Item). met.meets table x shown) (map (item.Doc table) ids)
documents_meet table row shown [] same = refl
documents_meet table row shown (id ∷ ids) same =
    ap (λ (b : Bool). b || list_any (λ (x : DocId). row.id.raw == x.raw) ids)
    (ap (λ (d : DocId). d.raw == id.raw) (sym same)
    ∙ sym (and_same (table.raw == table.raw) (shown.id.raw == id.raw) (eq-eqb table.raw table.raw refl)))
    ∙ ap (λ (b : Bool). ((table.raw == table.raw) && (shown.id.raw == id.raw)) || b) (documents_meet table row shown ids same)

pub exact_documents : (kind : SourceKind) (table : TableId) (items : List Item) (ids : List DocId)
    → items ≡ map (item.Doc table) ids → IsExact kind table items (probe.Ids ids)
exact_documents kind table items ids is = λ row.
    documents_meet table row (document_shown kind row) ids refl
    ∙ ap (λ (xs : List Item). meets_one table xs (document_shown kind row)) (sym is)

pub table_item : (it : Item) (read table : TableId) → it ≡ item.Table read → read.raw ≡ table.raw → it ≡ item.Table table
table_item it read table is same = is ∙ ap (λ (t : TableId). item.Table t) (one_table read table same)

-- one item more of a document
pub document_next : (table : TableId) (items : List Item) (i : ℕ) (it : Item) (id : DocId) (ids new : List DocId)
    → i < length items → it ≡ get_or items i it → it ≡ item.Doc table id → new ≡ ids ++ id ∷ []
    → take i items ≡ map (item.Doc table) ids → take (i + 1) items ≡ map (item.Doc table) new
document_next table items i it id ids new within this is new_is so_far =
    take_more items i it within
    ∙ ap (λ (x : Item). take i items ++ x ∷ []) (sym this ∙ is)
    ∙ ap (λ (xs : List Item). xs ++ item.Doc table id ∷ []) so_far
    ∙ sym (map-append (item.Doc table) ids (id ∷ []))
    ∙ ap (map (item.Doc table)) (sym new_is)

-- ---- keys

pub key_next : (table : TableId) (field : List ℕ) (items : List Item) (i : ℕ) (it : Item) (k : Key) (keys new : List Key)
    → i < length items → it ≡ get_or items i it → it ≡ item.IndexValue table field k → new ≡ keys ++ k ∷ []
    → take i items ≡ map (item.IndexValue table field) keys → take (i + 1) items ≡ map (item.IndexValue table field) new
key_next table field items i it k keys new within this is new_is so_far =
    take_more items i it within
    ∙ ap (λ (x : Item). take i items ++ x ∷ []) (sym this ∙ is)
    ∙ ap (λ (xs : List Item). xs ++ item.IndexValue table field k ∷ []) so_far
    ∙ sym (map-append (item.IndexValue table field) keys (k ∷ []))
    ∙ ap (map (item.IndexValue table field)) (sym new_is)

keys_meet : (table : TableId) (field : List ℕ) (row shown : Row) (keys : List Key) → shown.value ≡ row.value
    → list_any (λ (k : Key). has_key k (key_in (field_of field row.value))) keys
    ≡ list_any (λ (x : Item). met.meets table x shown) (map (item.IndexValue table field) keys)
keys_meet table field row shown [] same = refl
keys_meet table field row shown (k ∷ keys) same =
    ap (λ (b : Bool). b || list_any (λ (x : Key). has_key x (key_in (field_of field row.value))) keys)
    (ap (λ (v : Value). has_key k (key_in (field_of field v))) (sym same)
    ∙ sym (and_same (table.raw == table.raw) (has_key k (key_in (field_of field shown.value))) (eq-eqb table.raw table.raw refl)))
    ∙ ap (λ (b : Bool). ((table.raw == table.raw) && has_key k (key_in (field_of field shown.value))) || b)
    (keys_meet table field row shown keys same)

-- of a user view
exact_keys : (kind : SourceKind) (table : TableId) (field : List ℕ) (items : List Item) (keys : List Key) → shows_metadata kind ≡ false
    → items ≡ map (item.IndexValue table field) keys → IsExact kind table items (probe.Keys field keys)
exact_keys kind table field items keys plain is = λ row.
    keys_meet table field row (document_shown kind row) keys (ap (λ (b : Bool). if b then data_in row.value else row.value) plain)
    ∙ ap (λ (xs : List Item). meets_one table xs (document_shown kind row)) (sym is)

-- ---- keys of a committed view

module _ (base : State) (name field : List ℕ) (table : TableId) (items : List Item) (keys : List Key) (ids : List DocId)
    (committed : is_committed name ≡ true) (is : items ≡ map (item.IndexValue table field) keys) where
  abbrev has_one : Row → Bool
  has_one = meets (probe.Keys field keys)

  abbrev Named : Row → Type 0
  Named row = shows_one (source.Table name) table items row ≡ true → is_among ids row.id.raw ≡ true

  named_row : (r : Recorded) (row : Row) → document (row_showing r) ≡ row
      → (has_one row ≡ true → is_among ids row.id.raw ≡ true) → Named (row_showing r)
  named_row r row shown given = λ meets_it.
      let whole : shows_one (source.Table name) table items (row_showing r) ≡ has_one row =
      ap (meets_one table items) (committed_shown name (row_showing r) committed ∙ shown)
      ∙ ap (λ (xs : List Item). meets_one table xs row) is
      ∙ sym (keys_meet table field row row keys refl) in
      ap (λ (x : Row). is_among ids x.id.raw) shown ∙ given (sym whole ∙ meets_it)

  named_by : (d : Draft) (o : Option Row) (rows more : List Row) → IsLatest base.revisions d → row_of table d ≡ o
      → AreNamed ids has_one (cons_option o more) → AllByRecursion Named rows
      → AllByRecursion Named (cons_option (option_and_then (λ (row : Row). option_map row_showing (latest_of base.revisions row.id.raw)) o) rows)
  named_by d None rows more at row_is named all = all
  named_by d (Some row) rows more at row_is named all =
      let w = showing base.revisions table d row at row_is in
      subst (λ x. AllByRecursion Named (cons_option (option_map row_showing x) rows)) (sym w.1)
      (named_row w.0 row w.2 named.0, all)

  rest_named : (o : Option Row) (rows : List Row) → AreNamed ids has_one (cons_option o rows) → AreNamed ids has_one rows
  rest_named None rows named = named
  rest_named (Some row) rows named = named.1

  all_named : (ds : List Draft) → AllByRecursion (IsLatest base.revisions) ds → AreNamed ids has_one (filter_map (row_of table) ds)
      → AllByRecursion Named (filter_map (committed_row table base.revisions) ds)
  all_named [] all named = tt
  all_named (d ∷ ds) all named =
      named_by d (row_of table d) (filter_map (committed_row table base.revisions) ds) (filter_map (row_of table) ds) all.0 refl named
      (all_named ds all.1 (rest_named (row_of table d) (filter_map (row_of table) ds) named))

  enough_keys : HaveKeys base table field keys ids → IsEnough base (source.Table name) table items (probe.Ids ids)
  enough_keys have = (committed, refl, all_named (latest (map draft_of base.revisions)) (all_latest base.revisions) have)

-- ---- plans

-- the keys that are found name all items
pub found_keys : (table : TableId) (field : List ℕ) (items : List Item) (o : Option (List Key)) (keys : List Key) → o ≡ Some keys
    → IfSome o (λ (ks : List Key). items ≡ map (item.IndexValue table field) ks) → items ≡ map (item.IndexValue table field) keys
found_keys table field items o keys is named =
    subst (λ (x : Option (List Key)). IfSome x (λ (ks : List Key). items ≡ map (item.IndexValue table field) ks)) is named

-- of a committed view
pub committed_fits : (base : State) (kind : SourceKind) (table : TableId) (items : List Item) (name field : List ℕ) (keys : List Key)
    (o : Option (List DocId)) (p : Plan) → kind ≡ source.Table name → true ≡ is_committed name → items ≡ map (item.IndexValue table field) keys
    → IfSome o (HaveKeys base table field keys) → p ≡ documents_or_all o → Fits base kind table items p
committed_fits base kind table items name field keys None p is committed items_are have p_is = subst (Fits base kind table items) (sym p_is) tt
committed_fits base kind table items name field keys (Some ids) p is committed items_are have p_is =
    subst (Fits base kind table items) (sym p_is)
    (subst (λ (k : SourceKind). IsEnough base k table items (probe.Ids ids)) (sym is)
    (enough_keys base name field table items keys ids (sym committed) items_are have))

-- of a user view
pub keys_fit : (kind : SourceKind) (table : TableId) (items : List Item) (name field copied : List ℕ) (keys : List Key)
    → kind ≡ source.Table name → false ≡ is_committed name → items ≡ map (item.IndexValue table field) keys → copied ≡ field
    → IsExact kind table items (probe.Keys copied keys)
keys_fit kind table items name field copied keys is user items_are same =
    exact_keys kind table copied items keys (ap shows_metadata is ∙ sym user)
    (items_are ∙ ap (λ (f : List ℕ). map (item.IndexValue table f) keys) (sym same))

module _ (u : TableViews) (base : State) (params : List Value) (kind : SourceKind) (table : TableId) (items : List Item) (p : Plan) (asked : Probe)
    (rows : List Row) (same : base ≡ u.base.now) (fits : Fits base kind table items p)
    (are : rows ≡ meeting asked (rows_given (views_in u) params kind)) where
  pub rows_exact : p ≡ plan.Exact asked → rows ≡ filter (shows_one kind table items) (rows_given (views_in u) params kind)
  rows_exact is =
      are ∙ plan_exact (map table_of u.tables.now) u.base.now (documents_in u) params table items kind asked (subst (Fits base kind table items) is fits)

  pub rows_enough : (kept : List Row) → p ≡ plan.Enough asked
      → option_and_then (active_table (map table_of u.tables.now)) (table_in kind) ≡ Some table
      → kept ≡ filter (shows_one kind table items) rows → kept ≡ filter (shows_one kind table items) (rows_given (views_in u) params kind)
  rows_enough kept is at kept_is =
      kept_is ∙ ap (filter (shows_one kind table items)) are
      ∙ plan_enough (map table_of u.tables.now) u.base.now (documents_in u) params table items kind asked at
      (subst (λ (s : State). IsEnough s kind table items asked) same (subst (Fits base kind table items) is fits))
