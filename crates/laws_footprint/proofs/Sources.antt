-- What the sources of a FROM give: what is known of their rows, and that behind blocks that touch nothing of what
-- covers them those
-- that are read are the same.
use Rattle.std.proofs.Common.{◌≡◌, ◌∙◌, ℕ, ◌^◌, Bool, true, false, not, cond, ◌==◌, ◌&&◌, nat_lt, List, [], ◌∷◌, ◌++◌, map, refl, sym, ap, subst, Option, Some, None, option_map}
use Rattle.std.specs.Prelude.{option_and_then, if◌then◌else◌}
use Rattle.std.specs.List.{AllByRecursion, cons_option, filter, filter_map, list_all}
use Rattle.std.proofs.lemmas.Bool.{and_from}
use Rattle.std.proofs.lemmas.List.Elements.{filter_agree}
use Rattle.ion_values.specs.declared.value.Value.{Value}
use Rattle.ql_types.specs.declared.TableId.{TableId}
use Rattle.pql_model.specs.declared.expr.Expr.{Expr}
use Rattle.pql_model.specs.declared.statement.Source.{Source}
use Rattle.pql_model.specs.declared.statement.SourceKind.{SourceKind}
use Rattle.pql_model.specs.declared.statement.SourceKind.TheVariants as source
use Rattle.pql_model.specs.declared.tables.Row.{Row}
use Rattle.pql_model.specs.declared.tables.View.TheVariants as view
use Rattle.pql_model.specs.From.{bound_of, rows_given}
use Rattle.pql_model.specs.Tables.{is_committed, table_named, view_named}
use Rattle.ledger_model.specs.CommittedViews.{committed_row, committed_view, history_view, is_between, began, ended, row_showing}
use Rattle.ledger_model.specs.declared.block.Block.{Block}
use Rattle.ledger_model.specs.declared.block.Draft.{Draft}
use Rattle.ledger_model.specs.declared.outcome.Item.{Item}
use Rattle.ledger_model.specs.Follows.{latest_of}
use Rattle.ledger_model.specs.Footprints.{Schemas, is_read, table_of}
use Rattle.ledger_model.specs.Meets.{data_in, document_shown, shows_metadata, shows_one}
use Rattle.ledger_model.specs.Run.{Progress, rows_in, schemas_now, table_now, views_of}
use Rattle.ledger_model.specs.State.{Recorded, State, draft_of, state_from}
use Rattle.ledger_model.specs.Statements.{table_in}
use Rattle.ledger_model.specs.Views.{latest, row_of, user_view}
use Rattle.laws_footprint.specs.Covered.{fits_kind, is_known, is_read_by, no_key, shows_own_id}
use Rattle.ledger_model.specs.Meets.{meets_one}
use Rattle.laws_footprint.specs.Own.{IdsFit}
use Rattle.laws_footprint.specs.Restriction.{AllKnown}
use Rattle.laws_footprint.specs.Stillness.{Apart}
use Rattle.laws_footprint.specs.Touches.{conflict_from, id_of}
use Rattle.laws_footprint.proofs.Committed.{committed_still, document, own_id, showing}
use Rattle.laws_footprint.proofs.Documents.{IsLatest, all_latest}
use Rattle.laws_footprint.proofs.Histories.{history_still, latest_holds, past_is, test}
use Rattle.laws_footprint.proofs.Rows.{Named, all_joined, is_plain, known_user, latest_fit, rows_fit, table_same, user_shown}
use Rattle.laws_footprint.proofs.Still.{still}

-- ---- the rows of a committed view and of a history, revision by revision

module _ (P : Row → Type 0) (table : TableId) where
  abbrev pub OfShowing : List Recorded → Type 0
  OfShowing rs =
      (r : Recorded) (row : Row) → latest_of rs (id_of r) ≡ Some r → row_of table (draft_of r) ≡ Some row
      → document (row_showing r) ≡ row → P (row_showing r)

  committed_by : (rs : List Recorded) (d : Draft) (o : Option Row) (rows : List Row) → IsLatest rs d
      → row_of table d ≡ o → OfShowing rs → AllByRecursion P rows
      → AllByRecursion P (cons_option (option_and_then
      (λ (row : Row). option_map row_showing (latest_of rs row.id.raw)) o) rows)
  committed_by rs d None rows is e each all = all
  committed_by rs d (Some row) rows is e each all =
      let w = showing rs table d row is e in
      let same : id_of w.0 ≡ row.id.raw = ap (λ (x : Row). x.id.raw) w.2 in
      subst (λ x. AllByRecursion P (cons_option (option_map row_showing x) rows)) (sym w.1)
      (each w.0 row (ap (latest_of rs) same ∙ w.1) (ap (row_of table) w.3 ∙ e) w.2, all)

  by_documents : (rs : List Recorded) (docs : List Draft) → AllByRecursion (IsLatest rs) docs → OfShowing rs
      → AllByRecursion P (filter_map (committed_row table rs) docs)
  by_documents rs [] all each = tt
  by_documents rs (d ∷ ds) all each =
      committed_by rs d (row_of table d) (filter_map (committed_row table rs) ds) all.0 refl each
      (by_documents rs ds all.1 each)

  pub committed_rows : (rs : List Recorded) → OfShowing rs → AllByRecursion P (committed_view table rs)
  committed_rows rs each = by_documents rs (latest (map draft_of rs)) (all_latest rs) each

  historic : (r : Recorded) (rows : List Row) (a b : Bool) → (a ≡ true → P (row_showing r)) → AllByRecursion P rows
      → AllByRecursion P (cond (a && b) (row_showing r ∷ rows) rows)
  historic r rows true true h all = (h refl, all)
  historic r rows true false h all = all
  historic r rows false b h all = all

  pub history_rows : (Q : Recorded → Type 0) (start end : Option Value) (rs : List Recorded) → AllByRecursion Q rs
      → ((r : Recorded) → (r.table.raw == table.raw) ≡ true → Q r → P (row_showing r))
      → AllByRecursion P (history_view table start end rs)
  history_rows Q start end [] all each = tt
  history_rows Q start end (r ∷ rs) all each =
      historic r (history_view table start end rs) (r.table.raw == table.raw)
      (is_between start end (began r) (ended r rs)) (λ here. each r here all.0)
      (history_rows Q start end rs all.1 each)

-- ---- known rows

pub ids_fit : (rs : List Recorded) → IdsFit (map draft_of rs)
    → AllByRecursion (λ (r : Recorded). nat_lt (id_of r) (2 ^ 128) ≡ true) rs
ids_fit [] h = tt
ids_fit (r ∷ rs) h = (h.0, ids_fit rs h.1)

pub known_showing : (kind : SourceKind) (r : Recorded) → shows_metadata kind ≡ true → nat_lt (id_of r) (2 ^ 128) ≡ true
    → is_known kind (row_showing r) ≡ true
known_showing kind r shows fits =
    and_from (nat_lt (id_of r) (2 ^ 128)) (if shows_metadata kind then shows_own_id (row_showing r) else true) fits
    (ap (λ b. if b then shows_own_id (row_showing r) else true) shows ∙ own_id r)

pub latest_fits : (rs : List Recorded) (r : Recorded) → IdsFit (map draft_of rs) → latest_of rs (id_of r) ≡ Some r
    → nat_lt (id_of r) (2 ^ 128) ≡ true
latest_fits rs r fit at =
    latest_holds (λ (x : Recorded). nat_lt (id_of x) (2 ^ 128) ≡ true) rs (id_of r) r (ids_fit rs fit) at

all_users : (kind : SourceKind) (rows : List Row) → is_plain kind ≡ true
    → AllByRecursion (λ (r : Row). nat_lt r.id.raw (2 ^ 128) ≡ true) rows
    → AllByRecursion (λ (r : Row). is_known kind r ≡ true) rows
all_users kind [] plain h = tt
all_users kind (r ∷ rows) plain h = (known_user kind r plain h.0, all_users kind rows plain h.1)

module _ (s : State) (p : Progress) (fit : IdsFit (map draft_of s.revisions)) (own_fit : IdsFit p.log) where
  abbrev AllOf : SourceKind → List Row → Type 0
  AllOf kind rows = AllByRecursion (λ (r : Row). is_known kind r ≡ true) rows

  table_known : (name : List ℕ) (b : Bool) (o : Option TableId) → is_committed name ≡ b
      → AllOf (source.Table name) (rows_in s p (if b then view.Committed else view.User) o)
  table_known name true None e = tt
  table_known name false None e = tt
  table_known name true (Some table) e =
      committed_rows (λ (r : Row). is_known (source.Table name) r ≡ true) table s.revisions
      (λ r row at shows same. known_showing (source.Table name) r e (latest_fits s.revisions r fit at))
  table_known name false (Some table) e =
      all_users (source.Table name) (user_view table (map draft_of s.revisions) p.log) (ap not e)
      (rows_fit table (latest (map draft_of s.revisions ++ p.log))
      (latest_fit [] (map draft_of s.revisions ++ p.log) tt
      (all_joined _ (map draft_of s.revisions) p.log fit own_fit)))

  history_known : (name : List ℕ) (from to : Option Expr) (start end : Option Value) (o : Option TableId)
      → AllOf (source.History name from to) (rows_in s p (view.History start end) o)
  history_known name from to start end None = tt
  history_known name from to start end (Some table) =
      history_rows (λ (r : Row). is_known (source.History name from to) r ≡ true) table
      (λ (r : Recorded). nat_lt (id_of r) (2 ^ 128) ≡ true) start end s.revisions
      (ids_fit s.revisions fit) (λ r here fits. known_showing (source.History name from to) r refl fits)

  given_known : (params : List Value) (kind : SourceKind) → AllOf kind (rows_given (views_of s p) params kind)
  given_known params (source.Table name) = table_known name (is_committed name) (table_now s p (table_named name)) refl
  given_known params (source.History name from to) =
      history_known name from to (bound_of params from) (bound_of params to) (table_now s p name)
  given_known params (source.Path path) = tt

  pub all_known : (params : List Value) (sources : List Source) → AllKnown (views_of s p) params is_known sources
  all_known params [] = tt
  all_known params (x ∷ xs) = (given_known params x.from, all_known params xs)

-- ---- the same rows

pub committed_shown : (name : List ℕ) (row : Row) → is_committed name ≡ true
    → document_shown (source.Table name) row ≡ document row
committed_shown name row e = ap (λ b. record { id = row.id; value = if b then data_in row.value else row.value }) e

-- ---- the rows of one source, by its own items

module _ (m : ℕ) (s : State) (later : List Block) (p : Progress) (params : List Value) (items : List Item) where
  abbrev now : State
  now = state_from s later

  abbrev schemas : Schemas
  schemas = schemas_now s p

  module _ (none : conflict_from m s later items ≡ None) (apart : Apart later p.log) where
    -- what passes is what meets an item
    abbrev Passes : SourceKind → (Row → Bool) → Option TableId → Type 0
    Passes kind passes o = (table : TableId) (row : Row) → o ≡ Some table → passes row ≡ shows_one kind table items row

    table_rows : (name : List ℕ) (passes : Row → Bool) (b : Bool) (o : Option TableId) → is_committed name ≡ b
        → Passes (source.Table name) passes o
        → filter passes (rows_in now p (if b then view.Committed else view.User) o)
        ≡ filter passes (rows_in s p (if b then view.Committed else view.User) o)
    table_rows name passes true None e same = refl
    table_rows name passes false None e same = refl
    table_rows name passes false (Some table) e same =
        let alike = λ (row : Row). same table row refl
        ∙ ap (meets_one table items) (user_shown (source.Table name) row (ap not e)) in
        filter_agree passes (meets_one table items) alike (user_view table (map draft_of now.revisions) p.log)
        ∙ still m s later table items p.log none apart
        ∙ sym (filter_agree passes (meets_one table items) alike (user_view table (map draft_of s.revisions) p.log))
    table_rows name passes true (Some table) e same =
        let meets_document = λ (row : Row). meets_one table items (document row) in
        let alike = λ (row : Row). same table row refl ∙ ap (meets_one table items) (committed_shown name row e) in
        filter_agree passes meets_document alike (committed_view table now.revisions)
        ∙ committed_still m s later table items none
        ∙ sym (filter_agree passes meets_document alike (committed_view table s.revisions))

    past_rows : (name : List ℕ) (f t : Option Expr) (passes : Row → Bool) (start end : Option Value)
        (o : Option TableId) → list_all no_key items ≡ true → Passes (source.History name f t) passes o
        → filter passes (rows_in now p (view.History start end) o)
        ≡ filter passes (rows_in s p (view.History start end) o)
    past_rows name f t passes start end None fits same = refl
    past_rows name f t passes start end (Some table) fits same =
        let alike = λ (row : Row). same table row refl ∙ past_is name f t table items row fits in
        filter_agree passes (test name f t table items) alike (history_view table start end now.revisions)
        ∙ history_still name f t table items m s later start end none
        ∙ sym (filter_agree passes (test name f t table items) alike (history_view table start end s.revisions))

    kind_by : (passes : Row → Bool) (kind : SourceKind) → fits_kind kind items ≡ true
        → Passes kind passes (table_of schemas kind) → Named s later (table_in kind)
        → filter passes (rows_given (views_of now p) params kind)
        ≡ filter passes (rows_given (views_of s p) params kind)
    kind_by passes (source.Table name) fits same un =
        ap (λ o. filter passes (rows_in now p (view_named name) o)) (table_same s later p (table_named name) un)
        ∙ table_rows name passes (is_committed name) (table_now s p (table_named name)) refl same
    kind_by passes (source.History name f t) fits same un =
        ap (λ o. filter passes (rows_in now p (view.History (bound_of params f) (bound_of params t)) o))
        (table_same s later p name un)
        ∙ past_rows name f t passes (bound_of params f) (bound_of params t) (table_now s p name) fits same
    kind_by passes (source.Path path) fits same un = refl

    pub kind_same : (kind : SourceKind) → fits_kind kind items ≡ true → Named s later (table_in kind)
        → filter (is_read_by schemas kind items) (rows_given (views_of now p) params kind)
        ≡ filter (is_read_by schemas kind items) (rows_given (views_of s p) params kind)
    kind_same kind fits un =
        kind_by (is_read_by schemas kind items) kind fits (λ table row e. ap (λ o. is_read o kind items row) e) un
