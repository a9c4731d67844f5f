-- The documents that rows name.
use Rattle.std.proofs.Common.{◌≡◌, ◌∙◌, ◌⊎◌, inl, inr, ℕ, zero, suc, ◌+◌, ◌^◌, Bool, true, false, not, cond, ◌==◌, nat_lt, List, [], ◌∷◌, ◌++◌, map, take, drop, refl, sym, ap, subst, slice_get, Option, Some, None, option_map}
use Rattle.std.specs.Prelude.{option_and_then, if◌then◌else◌}
use Rattle.std.specs.List.{AllByRecursion, cons_option, filter, filter_map, find, flat_map, list_all, list_any}
use Rattle.std.proofs.lemmas.Bool.{and_parts, both_ways, eq-eqb, eqb-true, false≢true, or_left, or_right}
use Rattle.std.proofs.lemmas.List.{append_assoc, append-nil}
use Rattle.ion_values.specs.declared.value.Value.{Value}
use Rattle.ql_types.specs.declared.TableId.{TableId}
use Rattle.pql_model.specs.declared.scope.Bound.{Bound}
use Rattle.pql_model.specs.declared.expr.Expr.{Expr}
use Rattle.pql_model.specs.declared.statement.FromClause.{FromClause}
use Rattle.pql_model.specs.declared.statement.Source.{Source}
use Rattle.pql_model.specs.declared.statement.SourceKind.{SourceKind}
use Rattle.pql_model.specs.declared.statement.SourceKind.TheVariants as source
use Rattle.pql_model.specs.declared.tables.Row.{Row}
use Rattle.pql_model.specs.declared.tables.View.{View}
use Rattle.pql_model.specs.declared.tables.View.TheVariants as view
use Rattle.pql_model.specs.From.{Combined, bound_element, bound_of, bound_row, first_rows, given_over, is_kept, other_rows, rows_given, rows_of}
use Rattle.pql_model.specs.Names.{called, called_in_row}
use Rattle.pql_model.specs.Tables.{is_committed, table_named, view_named}
use Rattle.ql_types.specs.declared.DocId.{DocId}
use Rattle.ledger_model.specs.CommittedViews.{row_showing}
use Rattle.ledger_model.specs.declared.block.Block.{Block}
use Rattle.ledger_model.specs.declared.block.Content.{Content}
use Rattle.ledger_model.specs.declared.block.Content.TheVariants.{Deleted, Kept, Redacted}
use Rattle.ledger_model.specs.declared.block.Draft.{Draft}
use Rattle.ledger_model.specs.declared.outcome.Item.{Item}
use Rattle.ledger_model.specs.declared.outcome.Item.TheVariants as item
use Rattle.ledger_model.specs.Follows.{latest_of}
use Rattle.ledger_model.specs.Conditions.{Asked, all_asked, parts_of}
use Rattle.ledger_model.specs.Footprints.{Read, Schemas, all_read, is_read, names_read, read_by_sources, read_of, sources_read, table_of}
use Rattle.ledger_model.specs.Run.{Progress, rows_in, schemas_now, table_now, views_of}
use Rattle.ledger_model.specs.State.{Recorded, State, active_table, draft_of, empty, state}
use Rattle.ledger_model.specs.Statements.{table_in}
use Rattle.ledger_model.specs.Views.{latest, latest_from, live, put, row_of}
use Rattle.ledger_model.specs.Meets.{meets_one, shows_one}
use Rattle.laws_footprint.specs.Covered.{fits_kind, is_known, is_no_history, no_key, rows_by_source}
use Rattle.laws_footprint.specs.Naming.{IsUnrevised, NamedAreUnrevised, is_pending}
use Rattle.laws_footprint.specs.Own.{IdsFit}
use Rattle.laws_footprint.specs.Stillness.{block_revises}
use Rattle.laws_footprint.specs.Touches.{conflict_from, id_of}
use Rattle.pql_model.proofs.Combinations.{behind, one_start}
use Rattle.laws_footprint.proofs.Covering.{footprint_restricts}
use Rattle.laws_footprint.proofs.Documents.{IsLatest, all_latest, all_put, latest_after, meets_row}
use Rattle.pql_model.proofs.Equality.{inside}
use Rattle.laws_footprint.proofs.Pending.{Agrees, is_doc, pending_agree}
use Rattle.laws_footprint.proofs.Revised.{unrevised}
use Rattle.laws_footprint.proofs.Listed.{From, from_start, here_of, next_of}
use Rattle.laws_footprint.proofs.Selects.{own_fits}
use Rattle.laws_footprint.proofs.Rows.{Named, all_joined, all_left, all_named, all_right, all_untouched, is_plain, known_user, latest_fit, no_conflict, user_shown}
use Rattle.laws_footprint.proofs.Sources.{all_known, committed_rows, committed_shown, history_rows, ids_fit, known_showing, latest_fits}
use Rattle.laws_footprint.proofs.Committed.{row_is}
use Rattle.laws_footprint.proofs.Histories.{HasTable, Steady, historic_unrevised, past_is, steady_behind}
use Rattle.laws_footprint.proofs.Owning.{follow_take}
use Rattle.laws_footprint.proofs.Schemas.{Untouched}

-- ---- documents of which no change is pending

abbrev Committed : List Recorded → List Draft → Draft → Type 0
Committed rs pending d = is_pending d.id.raw pending ≡ false → IsLatest rs d

committed_all : (rs : List Recorded) (pending ds : List Draft) → AllByRecursion (IsLatest rs) ds
    → AllByRecursion (Committed rs pending) ds
committed_all rs pending [] h = tt
committed_all rs pending (d ∷ ds) h = ((λ e. h.0), committed_all rs pending ds h.1)

committed_put : (rs : List Recorded) (pending docs new : List Draft)
    → AllByRecursion (λ (d : Draft). is_pending d.id.raw pending ≡ true) new
    → AllByRecursion (Committed rs pending) docs → AllByRecursion (Committed rs pending) (latest_from docs new)
committed_put rs pending docs [] own h = h
committed_put rs pending docs (d ∷ ds) own h =
    committed_put rs pending (put docs d) ds own.1
    (all_put (Committed rs pending) docs d h (λ e. absurd (both_ways (is_pending d.id.raw pending) e own.0)))

all_pending : (ds pending : List Draft) → ((id : ℕ) → is_pending id ds ≡ true → is_pending id pending ≡ true)
    → AllByRecursion (λ (d : Draft). is_pending d.id.raw pending ≡ true) ds
all_pending [] pending f = tt
all_pending (d ∷ ds) pending f = (
  f d.id.raw (or_left (d.id.raw == d.id.raw) _ (eq-eqb d.id.raw d.id.raw refl)),
  all_pending ds pending
      (λ id h. f id (or_right (d.id.raw == id) _ h)),
)

committed_view : (rs : List Recorded) (pending : List Draft)
    → AllByRecursion (Committed rs pending) (latest (map draft_of rs ++ pending))
committed_view rs pending =
    subst (AllByRecursion (Committed rs pending)) (sym (latest_after [] (map draft_of rs) pending))
    (committed_put rs pending (latest (map draft_of rs)) pending (all_pending pending pending (λ id h. h))
    (committed_all rs pending (latest (map draft_of rs)) (all_latest rs)))

-- ---- kept combinations

all_appended : {A : Type 0} (P : A → Type 0) (xs ys : List A) → AllByRecursion P xs → AllByRecursion P ys
    → AllByRecursion P (xs ++ ys)
all_appended P [] ys h k = k
all_appended P (x ∷ xs) ys h k = (h.0, all_appended P xs ys h.1 k)

all_flat : {A B : Type 0} (Q : A → Type 0) (P : B → Type 0) (f : A → List B) (xs : List A) → AllByRecursion Q xs
    → ((x : A) → Q x → AllByRecursion P (f x))
    → AllByRecursion P (flat_map f xs)
all_flat Q P f [] h each = tt
all_flat Q P f (x ∷ xs) h each = all_appended P (f x) (flat_map f xs) (each x h.0) (all_flat Q P f xs h.1 each)

-- what is left of a list of which it holds
kept_one : {A : Type 0} (P : A → Type 0) (p : A → Bool) (x : A) (ys : List A) (b : Bool) → p x ≡ b → P x
    → AllByRecursion (λ y. P y × (p y ≡ true)) ys
    → AllByRecursion (λ y. P y × (p y ≡ true)) (cond b (x ∷ ys) ys)
kept_one P p x ys true e h all = ((h, e), all)
kept_one P p x ys false e h all = all

all_kept : {A : Type 0} (P : A → Type 0) (p : A → Bool) (xs : List A) → AllByRecursion P xs
    → AllByRecursion (λ x. P x × (p x ≡ true)) (filter p xs)
all_kept P p [] h = tt
all_kept P p (x ∷ xs) h = kept_one P p x (filter p xs) (p x) refl h.0 (all_kept P p xs h.1)

all_mapped : {A : Type 0} (P Q : A → Type 0) (xs : List A) → ((x : A) → P x → Q x) → AllByRecursion P xs
    → AllByRecursion Q xs
all_mapped P Q [] f h = tt
all_mapped P Q (x ∷ xs) f h = (f x h.0, all_mapped P Q xs f h.1)

all_both : {A : Type 0} (P Q : A → Type 0) (xs : List A) → AllByRecursion P xs → AllByRecursion Q xs
    → AllByRecursion (λ x. P x × Q x) xs
all_both P Q [] h k = tt
all_both P Q (x ∷ xs) h k = ((h.0, k.0), all_both P Q xs h.1 k.1)

-- ---- rows and their documents

-- what is known of a row of a source of this table: which blocks revise its document where it is read, and in which
-- table that is
pub record Shown (s : State) (later : List Block) (p : Progress) (items : List Item) (kind : SourceKind)
    (table : TableId) (row : Row) : Type 0 where
  pub known : is_known kind row ≡ true
  pub unrevised : shows_one kind table items row ≡ true → is_pending row.id.raw p.log ≡ false
      → list_any (block_revises row.id.raw) later ≡ false
  pub in_table : is_pending row.id.raw p.log ≡ false → (r : Recorded) → latest_of s.revisions row.id.raw ≡ Some r
      → r.table.raw ≡ table.raw
  pub pends_in : is_plain kind ≡ true → (d : Draft) → find (is_doc row.id.raw) (latest p.log) ≡ Some d
      → d.table.raw ≡ table.raw

module _ (m : ℕ) (s : State) (later : List Block) (p : Progress) (items : List Item)
    (none : conflict_from m s later items ≡ None) where
  -- ---- of a user view

  abbrev ShownAll : SourceKind → TableId → List Row → Type 0
  ShownAll kind table rows = AllByRecursion (Shown s later p items kind table) rows

  of_draft : (r : Recorded) (d : Draft) (o : Option Recorded) → o ≡ Some r → option_map draft_of o ≡ Some d
      → draft_of r ≡ d
  of_draft r d o e h = inside (draft_of r) d (sym (ap (option_map draft_of) e) ∙ h)

  shown_live : (kind : SourceKind) (table : TableId) (d : Draft) (content : Content) (b : Bool) (rows : List Row)
      → is_plain kind ≡ true → (d.table.raw == table.raw) ≡ b → d.content ≡ content
      → Committed s.revisions p.log d → Agrees (latest p.log) d → nat_lt d.id.raw (2 ^ 128) ≡ true
      → ShownAll kind table rows
      → ShownAll kind table (cons_option (cond b (live d.id content) None) rows)
  shown_live kind table d content false rows plain e is h agrees fits all = all
  shown_live kind table d Deleted true rows plain e is h agrees fits all = all
  shown_live kind table d (Redacted hash) true rows plain e is h agrees fits all = all
  shown_live kind table d (Kept v) true rows plain e is h agrees fits all =
      let row : Row = record { id = d.id; value = v } in
      let shows : row_of table d ≡ Some row = ap (λ b. cond b (live d.id d.content) None) e ∙ ap (live d.id) is in (
        record {
          known = known_user kind row plain fits;
          unrevised = λ met not.
              unrevised m s later table items d none (h not)
              (ap (meets_row (meets_one table items)) shows
              ∙ (ap (meets_one table items) (sym (user_shown kind row plain)) ∙ met));
          in_table =
              λ not r there. ap (λ (x : Draft). x.table.raw)
              (of_draft r d (latest_of s.revisions d.id.raw) there (h not)) ∙ eqb-true d.table.raw table.raw e;
          pends_in = λ user x there. ap (λ (y : Draft). y.table.raw) (agrees x there)
              ∙ eqb-true d.table.raw table.raw e;
        },
        all,
      )

  all_shown : (kind : SourceKind) (table : TableId) (docs : List Draft) → is_plain kind ≡ true
      → AllByRecursion (Committed s.revisions p.log) docs → AllByRecursion (Agrees (latest p.log)) docs → IdsFit docs
      → ShownAll kind table (filter_map (row_of table) docs)
  all_shown kind table [] plain h agrees k = tt
  all_shown kind table (d ∷ ds) plain h agrees k =
      shown_live kind table d d.content (d.table.raw == table.raw)
      (filter_map (row_of table) ds) plain refl refl h.0 agrees.0 k.0 (all_shown kind table ds plain h.1 agrees.1 k.1)

  module _ (fit : IdsFit (map draft_of s.revisions)) (own_fit : IdsFit p.log) where
    user_rows : (kind : SourceKind) (table : TableId) → is_plain kind ≡ true
        → ShownAll kind table (rows_in s p view.User (Some table))
    user_rows kind table plain =
        all_shown kind table (latest (map draft_of s.revisions ++ p.log)) plain (committed_view s.revisions p.log)
        (pending_agree (map draft_of s.revisions) p.log)
        (latest_fit [] (map draft_of s.revisions ++ p.log) tt
        (all_joined _ (map draft_of s.revisions) p.log fit own_fit))

    -- ---- of a committed view

    committed_shows : (name : List ℕ) (table : TableId) → is_committed name ≡ true
        → ShownAll (source.Table name) table (rows_in s p view.Committed (Some table))
    committed_shows name table e =
        committed_rows (Shown s later p items (source.Table name) table) table s.revisions (λ r row at shows same.
        let here = row_is table (draft_of r) row shows in
        record {
          known = known_showing (source.Table name) r e (latest_fits s.revisions r fit at);
          unrevised = λ met not.
              unrevised m s later table items (draft_of r) none (ap (option_map draft_of) at)
              (ap (meets_row (meets_one table items)) shows
              ∙ (ap (meets_one table items) (sym (committed_shown name (row_showing r) e ∙ same)) ∙ met));
          in_table = λ not x there. sym (ap (λ (y : Recorded). y.table.raw) (inside r x (sym at ∙ there)))
              ∙ eqb-true r.table.raw table.raw here.0;
          pends_in = λ user. absurd (false≢true (sym (ap not e) ∙ user));
        })

    -- ---- of a history

    history_shows : (name : List ℕ) (f t : Option Expr) (start end : Option Value) (table : TableId)
        → list_all no_key items ≡ true → Steady s
        → ShownAll (source.History name f t) table (rows_in s p (view.History start end) (Some table))
    history_shows name f t start end table fits steady =
        history_rows (Shown s later p items (source.History name f t) table) table
        (λ (r : Recorded). HasTable s (id_of r) r.table × (nat_lt (id_of r) (2 ^ 128) ≡ true)) start end
        s.revisions
        (all_both (λ (r : Recorded). HasTable s (id_of r) r.table)
        (λ (r : Recorded). nat_lt (id_of r) (2 ^ 128) ≡ true) s.revisions steady (ids_fit s.revisions fit))
        (λ r here w.
        let at : HasTable s (id_of r) table = (w.0.0, w.0.1, w.0.2 ∙ eqb-true r.table.raw table.raw here) in
        record {
          known = known_showing (source.History name f t) r refl w.1;
          unrevised = λ met not.
              historic_unrevised name f t table items m s later (row_showing r) none at
              (sym (past_is name f t table items (row_showing r) fits) ∙ met);
          in_table = λ not x there. sym (ap (λ (y : Recorded). y.table.raw) (inside at.0 x (sym at.1 ∙ there))) ∙ at.2;
          pends_in = λ user. absurd (false≢true user);
        })

    -- ---- of each source

    -- where the source names an active table
    abbrev pub InTable : SourceKind → List Row → Option TableId → Type 0
    InTable kind rows None = Unit {0}
    InTable kind rows (Some table) = ShownAll kind table rows

    table_rows : (name : List ℕ) (b : Bool) (o : Option TableId) → is_committed name ≡ b
        → InTable (source.Table name) (rows_in s p (if b then view.Committed else view.User) o) o
    table_rows name true None e = tt
    table_rows name false None e = tt
    table_rows name true (Some table) e = committed_shows name table e
    table_rows name false (Some table) e = user_rows (source.Table name) table (ap not e)

    past_rows : (name : List ℕ) (f t : Option Expr) (start end : Option Value) (o : Option TableId)
        → list_all no_key items ≡ true → Steady s
        → InTable (source.History name f t) (rows_in s p (view.History start end) o) o
    past_rows name f t start end None fits steady = tt
    past_rows name f t start end (Some table) fits steady = history_shows name f t start end table fits steady

    pub table_shown : (name : List ℕ) → InTable (source.Table name)
        (rows_in s p (view_named name) (table_now s p (table_named name))) (table_now s p (table_named name))
    table_shown name = table_rows name (is_committed name) (table_now s p (table_named name)) refl

    pub past_shown : (name : List ℕ) (f t : Option Expr) (start end : Option Value) → list_all no_key items ≡ true
        → (is_no_history (source.History name f t) ≡ true) ⊎ Steady s
        → InTable (source.History name f t) (rows_in s p (view.History start end) (table_now s p name))
        (table_now s p name)
    past_shown name f t start end fits (inl none_such) = absurd (false≢true none_such)
    past_shown name f t start end fits (inr steady) = past_rows name f t start end (table_now s p name) fits steady

-- ---- documents that kept rows name

-- a document of a table whose name isn't touched, which the source at a place shows
pub record NamedDoc (s : State) (later : List Block) (p : Progress) (from : FromClause) (n : ℕ)
    (id : DocId) : Type 0 where
  pub name : List ℕ
  pub table : TableId
  pub active : table_now s p name ≡ Some table
  pub untouched : Untouched s later (item.TableName name)
  pub fits : nat_lt id.raw (2 ^ 128) ≡ true
  pub unrevised : is_pending id.raw p.log ≡ false → list_any (block_revises id.raw) later ≡ false
  pub in_table : is_pending id.raw p.log ≡ false → (r : Recorded) → latest_of s.revisions id.raw ≡ Some r
      → r.table.raw ≡ table.raw
  pub pends_in : ((x : Source) → slice_get from.sources n ≡ Some x → is_plain x.from ≡ true) → (d : Draft)
      → find (is_doc id.raw) (latest p.log) ≡ Some d → d.table.raw ≡ table.raw

-- it holds of the document, where there is one
abbrev pub OfDoc : (DocId → Type 0) → Option DocId → Type 0
OfDoc P None = Unit {0}
OfDoc P (Some id) = P id

-- of each document that rows name
abbrev pub OfRows : (DocId → Type 0) → List Combined → Type 0
OfRows P rows = AllByRecursion (λ c. AllByRecursion (λ (b : Bound). OfDoc P b.id) c) rows

-- place by place
abbrev pub OfPlaces : (ℕ → DocId → Type 0) → ℕ → List Bound → Type 0
OfPlaces P n [] = Unit {0}
OfPlaces P n (b ∷ bs) = OfDoc (P n) b.id × OfPlaces P (n + 1) bs

abbrev pub NamedRow : State → List Block → Progress → FromClause → Combined → Type 0
NamedRow s later p from c =
    (map called_in_row c ≡ map called from.sources) × OfPlaces (NamedDoc s later p from) 0 c

module _ (P : ℕ → DocId → Type 0) (Q : DocId → Type 0) (f : (n : ℕ) (id : DocId) → P n id → Q id) where
  of_doc : (n : ℕ) (o : Option DocId) → OfDoc (P n) o → OfDoc Q o
  of_doc n None h = tt
  of_doc n (Some id) h = f n id h

  pub of_places : (n : ℕ) (c : List Bound) → OfPlaces P n c → AllByRecursion (λ (b : Bound). OfDoc Q b.id) c
  of_places n [] h = tt
  of_places n (b ∷ bs) h = (of_doc n b.id h.0, of_places (n + 1) bs h.1)

pub of_rows : (s : State) (later : List Block) (p : Progress) (from : FromClause) (Q : DocId → Type 0)
    (rows : List Combined) → ((n : ℕ) (id : DocId) → NamedDoc s later p from n id → Q id)
    → AllByRecursion (NamedRow s later p from) rows → OfRows Q rows
of_rows s later p from Q [] f h = tt
of_rows s later p from Q (c ∷ cs) f h =
    (of_places (NamedDoc s later p from) Q f 0 c h.0.1, of_rows s later p from Q cs f h.1)

all_at : {A : Type 0} (P : A → Type 0) (xs : List A) (n : ℕ) (x : A) → AllByRecursion P xs → slice_get xs n ≡ Some x
    → P x
all_at P [] n x h at = cc
all_at P (y ∷ ys) zero x h at = subst P (inside y x at) h.0
all_at P (y ∷ ys) (suc n) x h at = all_at P ys n x h.1 at

-- ---- combinations of such rows

module _ (P : ℕ → DocId → Type 0) (params : List Value) (Q : Combined → Type 0) where
  abbrev RowsHold : ℕ → List (List Row) → Type 0
  RowsHold n [] = Unit {0}
  RowsHold n (rows ∷ more) = AllByRecursion (λ (row : Row). P n row.id) rows × RowsHold (n + 1) more

  abbrev Holds : ℕ → Source → Bound → Type 0
  Holds n x b = (called_in_row b ≡ called x) × OfDoc (P n) b.id

  rows_hold : (n : ℕ) (x : Source) (rows : List Row) → AllByRecursion (λ (row : Row). P n row.id) rows
      → AllByRecursion (Holds n x) (map (bound_row x) rows)
  rows_hold n x [] h = tt
  rows_hold n x (r ∷ rows) h = ((refl, h.0), rows_hold n x rows h.1)

  values_hold : (n : ℕ) (x : Source) (vs : List Value) → AllByRecursion (Holds n x) (map (bound_element x) vs)
  values_hold n x [] = tt
  values_hold n x (v ∷ vs) = ((refl, tt), values_hold n x vs)

  given_hold : (n : ℕ) (x : Source) (kind : SourceKind) (rows : List Row) (c : Combined)
      → AllByRecursion (λ (row : Row). P n row.id) rows
      → AllByRecursion (Holds n x) (given_over rows params x kind c)
  given_hold n x (source.Table name) rows c h = rows_hold n x rows h
  given_hold n x (source.History table start end) rows c h = rows_hold n x rows h
  given_hold n x (source.Path path) rows c h = values_hold n x _

  first_hold : (n : ℕ) (rows : List (List Row)) → RowsHold n rows
      → AllByRecursion (λ (row : Row). P n row.id) (first_rows rows) × RowsHold (n + 1) (other_rows rows)
  first_hold n [] h = (tt, tt)
  first_hold n (rows ∷ more) h = h

  pub all_hold_behind : (n : ℕ) (ss : List Source) (rows : List (List Row)) (c : Combined) → RowsHold n rows
      → ((rest : Combined) → map called_in_row rest ≡ map called ss → OfPlaces P n rest → Q (c ++ rest))
      → AllByRecursion Q (behind params ss rows c)
  all_hold_behind n [] rows c h each = (subst Q (append-nil c) (each [] refl tt), tt)
  all_hold_behind n (x ∷ xs) rows c h each =
      let parts = first_hold n rows h in
      all_flat (Holds n x) Q (λ b. behind params xs (other_rows rows) (c ++ b ∷ []))
      (given_over (first_rows rows) params x x.from c) (given_hold n x x.from (first_rows rows) c parts.0)
      (λ b w. all_hold_behind (n + 1) xs (other_rows rows) (c ++ b ∷ []) parts.1 (λ rest same places.
      subst Q (sym (append_assoc c (b ∷ []) rest))
      (each (b ∷ rest) (ap (λ y. y ∷ map called_in_row rest) w.0 ∙ ap (λ ys. called x ∷ ys) same) (w.1, places))))

module _ (m : ℕ) (s : State) (later : List Block) (p : Progress) (params : List Value) (from : FromClause)
    (fit : IdsFit (map draft_of s.revisions)) (own_fit : IdsFit p.log) where
  abbrev schemas : Schemas
  schemas = schemas_now s p

  abbrev asked : List Asked
  asked = all_asked from.sources (parts_of params from)

  abbrev read : List Read → SourceKind → Read
  read = read_of schemas (views_of s p) params asked

  abbrev IsNamed : ℕ → Row → Type 0
  IsNamed n row = NamedDoc s later p from n row.id

  -- the name of its source's table
  name_of : (o : Option (List ℕ)) (table : TableId) → Named s later o
      → option_and_then (active_table schemas.tables) o ≡ Some table
      → (name : List ℕ) × (table_now s p name ≡ Some table) × Untouched s later (item.TableName name)
  name_of None table un is = cc
  name_of (Some name) table un is = (name, is, un)

  row_named : (n : ℕ) (x : Source) (kind : SourceKind) (row : Row) (table : TableId) (items : List Item)
      → x.from ≡ kind → slice_get from.sources n ≡ Some x → table_of schemas kind ≡ Some table
      → Named s later (table_in kind) → shows_one kind table items row ≡ true
      → Shown s later p items kind table row → IsNamed n row
  row_named n x kind row table items of at is un met shown =
      let called = name_of (table_in kind) table un is in
      record {
        name = called.0;
        table = table;
        active = called.1;
        untouched = called.2;
        fits = (and_parts (nat_lt row.id.raw (2 ^ 128)) _ shown.known).0;
        unrevised = shown.unrevised met;
        in_table = shown.in_table;
        pends_in = λ user. shown.pends_in (ap is_plain (sym of) ∙ user x at);
      }

  -- the rows that are read of a source that shows a view
  view_named_by : (n : ℕ) (x : Source) (kind : SourceKind) (v : View) (items : List Item)
      (none : conflict_from m s later items ≡ None) (o : Option TableId)
      → x.from ≡ kind → slice_get from.sources n ≡ Some x → table_of schemas kind ≡ o → Named s later (table_in kind)
      → InTable m s later p items none fit own_fit kind (rows_in s p v o) o
      → AllByRecursion (IsNamed n) (filter (is_read o kind items) (rows_in s p v o))
  view_named_by n x kind v items none None of at is un h = tt
  view_named_by n x kind v items none (Some table) of at is un h =
      all_mapped (λ row. Shown s later p items kind table row × (shows_one kind table items row ≡ true)) (IsNamed n)
      (filter (shows_one kind table items) (rows_in s p v (Some table)))
      (λ row w. row_named n x kind row table items of at is un w.1 w.0)
      (all_kept (Shown s later p items kind table) (shows_one kind table items) (rows_in s p v (Some table)) h)

  read_named : (n : ℕ) (x : Source) (kind : SourceKind) (items : List Item) → x.from ≡ kind
      → slice_get from.sources n ≡ Some x → Named s later (table_in kind) → fits_kind kind items ≡ true
      → conflict_from m s later items ≡ None → (is_no_history kind ≡ true) ⊎ Steady s
      → AllByRecursion (IsNamed n) (filter (is_read (table_of schemas kind) kind items)
      (rows_given (views_of s p) params kind))
  read_named n x (source.Table name) items of at un fits none stays =
      view_named_by n x (source.Table name) (view_named name) items none
      (table_now s p (table_named name)) of at refl un
      (table_shown m s later p items none fit own_fit name)
  read_named n x (source.History name f t) items of at un fits none stays =
      view_named_by n x (source.History name f t) (view.History (bound_of params f) (bound_of params t)) items none
      (table_now s p name) of at refl un
      (past_shown m s later p items none fit own_fit name f t (bound_of params f) (bound_of params t) fits stays)
  read_named n x (source.Path path) items of at un fits none stays = tt

  -- no source is a history, or each document stays in its table
  abbrev AllStay : List Source → Type 0
  AllStay ss = (list_all (λ (y : Source). is_no_history y.from) ss ≡ true) ⊎ Steady s

  first_stays : (x : Source) (xs : List Source) → AllStay (x ∷ xs)
      → ((is_no_history x.from ≡ true) ⊎ Steady s) × AllStay xs
  first_stays x xs (inl h) = let parts =
      and_parts (is_no_history x.from) (list_all (λ (y : Source). is_no_history y.from) xs)
      h in (inl parts.0, inl parts.1)
  first_stays x xs (inr steady) = (inr steady, inr steady)

  all_named_rows : (n : ℕ) (earlier : List Read) (ss : List Source) → From from.sources n ss → AllStay ss
      → AllByRecursion (λ (x : Source). Named s later (table_in x.from)) ss
      → AllByRecursion (Untouched s later) (flat_map (λ (r : Read). r.items) (all_read read earlier ss))
      → RowsHold (NamedDoc s later p from) params (NamedRow s later p from) n
      (rows_by_source (all_read read earlier ss))
  all_named_rows n earlier [] at stays un still = tt
  all_named_rows n earlier (x ∷ xs) at stays un still =
      let r = read earlier x.from in
      let rest = flat_map (λ (q : Read). q.items) (all_read read (earlier ++ r ∷ []) xs) in
      let parts = first_stays x xs stays in (
        read_named n x x.from r.items refl (here_of from.sources n x xs at) un.0
            (own_fits schemas asked earlier x.from (table_of schemas x.from))
            (no_conflict m s later r.items (all_left (Untouched s later) r.items rest still)) parts.0,
        all_named_rows (n + 1) (earlier ++ r ∷ []) xs (next_of from.sources n x xs at) parts.1 un.1
            (all_right (Untouched s later) r.items rest still),
      )

  pub all_named_docs : AllStay from.sources
      → conflict_from m s later (read_by_sources schemas (views_of s p) params from) ≡ None
      → AllByRecursion (NamedRow s later p from) (rows_of (views_of s p) params from)
  all_named_docs stays none =
      let own = flat_map (λ (r : Read). r.items) (sources_read schemas (views_of s p) params from) in
      let rows = rows_by_source (sources_read schemas (views_of s p) params from) in
      let un =
      all_untouched m s later (read_by_sources schemas (views_of s p) params from) none in
      let names =
      all_named s later from.sources (all_left (Untouched s later) (names_read from.sources) own un) in
      let combined =
      all_hold_behind (NamedDoc s later p from) params (NamedRow s later p from) 0 from.sources rows []
      (all_named_rows 0 [] from.sources (from_start from.sources) stays names
      (all_right (Untouched s later) (names_read from.sources) own un))
      (λ rest same places. (same, places)) in
      subst (AllByRecursion (NamedRow s later p from))
      (sym (footprint_restricts schemas (views_of s p) params from (all_known s p fit own_fit params from.sources)
      ∙ ap (filter (is_kept params from)) (one_start params from.sources rows)))
      (all_mapped (λ c. NamedRow s later p from c × (is_kept params from c ≡ true)) (NamedRow s later p from)
      (filter (is_kept params from) (behind params from.sources rows [])) (λ c w. w.0)
      (all_kept (NamedRow s later p from) (is_kept params from) (behind params from.sources rows []) combined))

-- ---- the law

module _ (later : List Block) (pending : List Draft) where
  doc_unrevised : (o : Option DocId) → OfDoc
      (λ id. is_pending id.raw pending ≡ false → list_any (block_revises id.raw) later ≡ false) o
      → IsUnrevised later pending o
  doc_unrevised None h = tt
  doc_unrevised (Some id) h = h

  bounds_unrevised : (c : List Bound) → AllByRecursion
      (λ (b : Bound). OfDoc (λ id. is_pending id.raw pending ≡ false → list_any (block_revises id.raw) later ≡ false)
      b.id) c
      → AllByRecursion (λ (b : Bound). IsUnrevised later pending b.id) c
  bounds_unrevised [] h = tt
  bounds_unrevised (b ∷ bs) h = (doc_unrevised b.id h.0, bounds_unrevised bs h.1)

  rows_unrevised : (rows : List Combined)
      → OfRows (λ id. is_pending id.raw pending ≡ false → list_any (block_revises id.raw) later ≡ false) rows
      → AllByRecursion (λ c. AllByRecursion (λ (b : Bound). IsUnrevised later pending b.id) c) rows
  rows_unrevised [] h = tt
  rows_unrevised (c ∷ cs) h = (bounds_unrevised c h.0, rows_unrevised cs h.1)

pub named_are_unrevised : NamedAreUnrevised
named_are_unrevised mask blocks since p params from stays fit own_fit none =
    let s = state (take since blocks) in
    let later = drop since blocks in
    let steady : (list_all (λ (y : Source). is_no_history y.from) from.sources ≡ true) ⊎ Steady s =
    elim stays as (λ _. (list_all (λ (y : Source). is_no_history y.from) from.sources ≡ true) ⊎ Steady s) [
      | inl none_such ↦ inl none_such
      | inr follow ↦ inr (steady_behind mask empty (take since blocks)
          (follow_take mask 0 since empty blocks follow) tt)
    ] in
    rows_unrevised later p.log (rows_of (views_of s p) params from)
    (of_rows s later p from (λ id. is_pending id.raw p.log ≡ false
    → list_any (block_revises id.raw) later ≡ false) (rows_of (views_of s p) params from)
    (λ place id n. n.unrevised) (all_named_docs since s later p params from fit own_fit steady none))
