-- The frame of one statement.
use Rattle.std.proofs.Common.{◌≡◌, ◌∙◌, ◌⊎◌, inl, inr, ℕ, ◌+◌, true, false, Bool, List, [], ◌∷◌, ◌++◌, map, take, drop, length, refl, sym, ap, subst, arith, Option, Some, None, Result, Ok, Err, option_map}
use Rattle.std.specs.Prelude.{nat_le, if◌then◌else◌}
use Rattle.std.specs.List.{AllByRecursion, cons_option, filter, flat_map, list_any}
use Rattle.std.proofs.lemmas.Bool.{or_parts, true≢false}
use Rattle.std.proofs.lemmas.List.Elements.{filter-append}
use Rattle.ion_values.specs.declared.value.Value.{Value}
use Rattle.ql_types.specs.declared.TableId.{TableId}
use Rattle.pql_model.specs.declared.expr.Expr.{Expr}
use Rattle.pql_model.specs.declared.statement.FromClause.{FromClause}
use Rattle.pql_model.specs.declared.statement.Select.{Select}
use Rattle.pql_model.specs.declared.statement.Statement.{Statement}
use Rattle.pql_model.specs.declared.statement.Statement.TheVariants as statement
use Rattle.pql_model.specs.From.{rows_given, rows_of}
use Rattle.pql_model.specs.Meaning.{meaning, under}
use Rattle.ledger_model.specs.declared.block.Block.{Block}
use Rattle.ledger_model.specs.declared.block.Draft.{Draft}
use Rattle.ledger_model.specs.declared.block.Schema.{Schema}
use Rattle.ledger_model.specs.declared.block.Schema.TheVariants.{Create, Index, Drop, Redact}
use Rattle.ledger_model.specs.declared.outcome.Item.{Item}
use Rattle.ledger_model.specs.declared.outcome.Item.TheVariants as item
use Rattle.ledger_model.specs.Writing.{changed, deleted, first_own, is_root, rows_now, stored_changes, stored_deletes}
use Rattle.ledger_model.specs.Redacting.{not_redacted, of_name, of_revision}
use Rattle.ledger_model.specs.RedactionArguments.{RevisionName, items_named, named_revision, redaction_of}
use Rattle.ledger_model.specs.Statements.{table_in}
use Rattle.pql_model.specs.Effects.{changed_documents, deleted_documents}
use Rattle.pql_model.specs.declared.statement.Change.{Change}
use Rattle.pql_model.specs.declared.statement.Source.{Source}
use Rattle.ledger_model.specs.Footprints.{footprint_of, items_read, names_read, read_by_sources, sources_read}
use Rattle.ledger_model.specs.Follows.{has_index, named_by}
use Rattle.ledger_model.specs.declared.outcome.Refusal.{Refusal}
use Rattle.ledger_model.specs.declared.outcome.Refusal.TheVariants.{IndexExists, TooManyIndexes}
use Rattle.ledger_model.specs.Run.{Begun, Effect, Progress, and_then, changed_by, created, documents_in, done_by_statement, effect_of, existing, first_absent, if_documents, inserted, new_document, new_table, next_id, not_stored, no_table_more, on_table, reading, reserved, schemas_now, selected, stored, table_now, tables_now, unless, views_of}
use Rattle.ledger_model.specs.SchemaChanges.{dropped as table_dropped, existing_index, indexed as table_indexed, indexes_now, no_index_more, schema_change}
use Rattle.ledger_model.specs.State.{Indexed, Recorded, State, Table, active_table, after, all_changed, all_indexed, changed as tables_changed, draft_of, empty, indexed, state, state_from}
use Rattle.laws_footprint.specs.Framed.{Beside, CoveredRowsAreFramed, IsSettled, NameIsFramed, RowsAreFramed, SourceIsStill, StatementIsFramed, indexes_of, is_index_of}
use Rattle.laws_footprint.specs.Covered.{is_known, is_read_by, reads_by}
use Rattle.laws_footprint.proofs.Redacting.{named_same}
use Rattle.laws_footprint.proofs.Written.{changes_no_history, no_history_of, read_changes_none, written_plain}
use Rattle.laws_footprint.specs.Restriction.{Covers}
use Rattle.laws_footprint.specs.Own.{AllCreated, AllFollow, IdsFit, StandsInNone, is_by}
use Rattle.laws_footprint.specs.Stillness.{Apart, block_revises}
use Rattle.laws_footprint.specs.Touches.{conflict_from, touches_list}
use Rattle.laws_footprint.proofs.Owning.{follow_take, old_or_own, own_index_behind, own_is_apart}
use Rattle.laws_footprint.proofs.Schemas.{Untouched, has_index_is, index_still, is_on}
use Rattle.laws_footprint.proofs.Listed.{from_start}
use Rattle.laws_footprint.proofs.Changing.{Pends, ResultStands, Stands, Told, Touchable, changes_same, changes_stand, deletes_same, deletes_stand, named_stands, named_touchable, unless_stands}
use Rattle.laws_footprint.proofs.Histories.{Steady, steady_behind}
use Rattle.laws_footprint.proofs.NamedBy.{OfAll, changed_at, deleted_at}
use Rattle.laws_footprint.proofs.Naming.{NamedDoc, NamedRow, all_named_docs}
use Rattle.laws_footprint.proofs.Rows.{Named, all_left, first_name, all_named, all_right, all_untouched, fits_before, no_conflict, table_same}
use Rattle.laws_footprint.proofs.Sources.{kind_same}
use Rattle.laws_footprint.proofs.Selects.{covered_framed, first_absent_same, names_untouched, rows_framed, select_framed, sources_same}
use Rattle.laws_footprint.proofs.Still.{state_split}

-- ---- the list of tables

no_change : (tables : List Table) (c : Schema) → touches_list c ≡ false → tables_changed tables c ≡ tables
no_change tables (Create name id) h = absurd (true≢false h)
no_change tables (Index field id) h = refl
no_change tables (Drop name id) h = absurd (true≢false h)
no_change tables (Redact address id document) h = refl

no_changes : (tables : List Table) (cs : List Schema) → list_any touches_list cs ≡ false
    → all_changed tables cs ≡ tables
no_changes tables [] h = refl
no_changes tables (c ∷ cs) h =
    let parts = or_parts (touches_list c) (list_any touches_list cs) h in
    no_changes (tables_changed tables c) cs parts.1 ∙ no_change tables c parts.0

list_still : (s : State) (later : List Block) → Untouched s later item.TableList
    → (state_from s later).tables ≡ s.tables
list_still s [] h = refl
list_still s (b ∷ bs) h = list_still (after s b) bs h.1 ∙ no_changes s.tables b.info.schema h.0

-- ---- the same indexes behind the same changes

same_index : (xs ys : List Indexed) (table : TableId) (c : Schema) → indexes_of table xs ≡ indexes_of table ys
    → indexes_of table (indexed xs c) ≡ indexes_of table (indexed ys c)
same_index xs ys table (Create name id) h = h
same_index xs ys table (Drop name id) h = h
same_index xs ys table (Redact address id document) h = h
same_index xs ys table (Index field id) h =
    filter-append (is_index_of table) xs (record { table = id; field = field } ∷ [])
    ∙ ap (λ ix. ix ++ indexes_of table (record { table = id; field = field } ∷ [])) h
    ∙ sym (filter-append (is_index_of table) ys (record { table = id; field = field } ∷ []))

same_indexes : (xs ys : List Indexed) (table : TableId) (cs : List Schema) → indexes_of table xs ≡ indexes_of table ys
    → indexes_of table (all_indexed xs cs) ≡ indexes_of table (all_indexed ys cs)
same_indexes xs ys table [] h = h
same_indexes xs ys table (c ∷ cs) h = same_indexes (indexed xs c) (indexed ys c) table cs (same_index xs ys table c h)

-- ---- one statement

-- what is known of a transaction at a state, and of the blocks behind it
pub record Known (mask n : ℕ) (s : State) (later : List Block) (p : Progress) : Type 0 where
  pub apart : Apart later p.log
  pub own_index : (table : TableId) → is_by mask n table.raw ≡ true
      → indexes_of table (state_from s later).indexes ≡ indexes_of table s.indexes
  pub tables : AllCreated mask n p.schema
  pub fit : IdsFit (map draft_of (state_from s later).revisions)
  pub own_fit : IdsFit p.log
  pub steady : Steady s

module _ (mask n m : ℕ) (s : State) (later : List Block) (p : Progress) (known : Known mask n s later p) where
  pub indexes_known : (name : List ℕ) (table : TableId) → Untouched s later (item.TableName name)
      → table_now s p name ≡ Some table
      → indexes_of table (schemas_now (state_from s later) p).indexes ≡ indexes_of table (schemas_now s p).indexes
  indexes_known name table un is =
      same_indexes (state_from s later).indexes s.indexes table p.schema
      (elim (old_or_own mask n s.tables p.schema name table known.tables is) as
      (λ _. indexes_of table (state_from s later).indexes ≡ indexes_of table s.indexes) [
        | inl there ↦ index_still name s later table there un
        | inr own ↦ known.own_index table own
      ])

  -- what a FROM reads of each source is the same
  pub sources_same_here : (params : List Value) (from : FromClause)
      → conflict_from m s later (read_by_sources (schemas_now s p) (views_of s p) params from) ≡ None
      → sources_read (schemas_now (state_from s later) p) (views_of (state_from s later) p) params from
      ≡ sources_read (schemas_now s p) (views_of s p) params from
  sources_same_here params from none =
      sources_same m s later p params from none known.apart (λ name table named is. indexes_known name table named is)

  pub reads_same : (params : List Value) (from : FromClause)
      → conflict_from m s later (read_by_sources (schemas_now s p) (views_of s p) params from) ≡ None
      → read_by_sources (schemas_now (state_from s later) p) (views_of (state_from s later) p) params from
      ≡ read_by_sources (schemas_now s p) (views_of s p) params from
  reads_same params from none = ap (items_read from.sources) (sources_same_here params from none)

  pub rows_same : (params : List Value) (from : FromClause)
      → conflict_from m s later (read_by_sources (schemas_now s p) (views_of s p) params from) ≡ None
      → rows_of (views_of (state_from s later) p) params from ≡ rows_of (views_of s p) params from
  rows_same params from none =
      rows_framed m s later p params from none known.apart (λ name table named is. indexes_known name table named is)
      known.fit known.own_fit

module _ (b : Begun) (m : ℕ) (s : State) (later : List Block) (p : Progress)
    (known : Known b.mask b.number s later p) where
  abbrev now : State
  now = state_from s later

  created_same : (name : List ℕ) → Untouched s later item.TableList → created b now p name ≡ created b s p name
  created_same name un =
      ap (λ ts. unless (reserved name) (unless (existing name (active_table ts name))
      (unless (no_table_more ts p.schema) (Ok (new_table (next_id b p) name)))))
      (ap (λ ts. all_changed ts p.schema) (list_still s later un))

  inserted_same : (params : List Value) (name : List ℕ) (e : Expr) → Untouched s later (item.TableName name)
      → inserted b now p params name e ≡ inserted b s p params name e
  inserted_same params name e un =
      ap (λ o. unless (reserved name) (on_table name o
      (λ table. if_documents (documents_in (meaning e (under [] params))) (stored b table p))))
      (table_same s later p name un)

  -- a table has the same indexes
  abbrev index_change : List Indexed → List ℕ → List ℕ → TableId → Result Effect Refusal
  index_change indexes name field table =
      unless (existing_index indexes name field table)
      (unless (no_index_more indexes table) (Ok (schema_change table (Index field table))))

  change_same : (xs ys : List Indexed) (name field : List ℕ) (table : TableId)
      → indexes_of table xs ≡ indexes_of table ys → index_change xs name field table ≡ index_change ys name field table
  change_same xs ys name field table same =
      let has : has_index xs table field ≡ has_index ys table field = has_index_is xs table field
      ∙ ap (list_any (is_on field)) same ∙ sym (has_index_is ys table field) in
      ap (λ h. unless (if h then Some (IndexExists name field) else None)
      (unless (no_index_more xs table) (Ok (schema_change table (Index field table))))) has
      ∙ ap (λ n. unless (existing_index ys name field table)
      (unless (if nat_le 5 n then Some (TooManyIndexes n) else None) (Ok (schema_change table (Index field table)))))
      (ap length same)

  index_by : (name field : List ℕ) (o : Option TableId) → Untouched s later (item.TableName name)
      → table_now s p name ≡ o
      → on_table name o (index_change (indexes_now now p) name field)
      ≡ on_table name o (index_change (indexes_now s p) name field)
  index_by name field None un is = refl
  index_by name field (Some table) un is =
      change_same (indexes_now now p) (indexes_now s p) name field table
      (indexes_known b.mask b.number m s later p known name table un is)

  indexed_same : (name field : List ℕ) → Untouched s later (item.TableName name)
      → table_indexed now p name field ≡ table_indexed s p name field
  indexed_same name field un =
      ap (λ o. unless (reserved name) (on_table name o (index_change (indexes_now now p) name field)))
      (table_same s later p name un)
      ∙ ap (unless (reserved name)) (index_by name field (table_now s p name) un refl)

  dropped_same : (name : List ℕ) → Untouched s later (item.TableName name)
      → table_dropped now p name ≡ table_dropped s p name
  dropped_same name un =
      ap (λ o. unless (reserved name) (on_table name o (λ table. Ok (schema_change table (Drop name table)))))
      (table_same s later p name un)

  selected_same : (params : List Value) (select : Select) (from : FromClause)
      → AllByRecursion (Untouched s later) (footprint_of (schemas_now s p) (views_of s p) params
      (statement.Select select from))
      → effect_of b now p params (statement.Select select from) ≡ effect_of b s p params (statement.Select select from)
  selected_same params select from un =
      let none = no_conflict m s later (footprint_of (schemas_now s p) (views_of s p) params
      (statement.Select select from)) un in
      ap (λ x. reading (footprint_of (schemas_now now p) (views_of now p) params (statement.Select select from)) x)
      (select_framed m s later p params from none known.apart select
      (λ x table named is. indexes_known b.mask b.number m s later p known x table named is) known.fit known.own_fit)
      ∙ ap (λ is. reading is (selected s p params select from))
      (reads_same b.mask b.number m s later p known params from none)

  -- ---- what changes documents

  abbrev reads : List Value → FromClause → List Item
  reads params from = read_by_sources (schemas_now s p) (views_of s p) params from

  module _ (params : List Value) (from : FromClause)
      (un : AllByRecursion (Untouched s later) (reads params from)) where
    none_touched : conflict_from m s later (reads params from) ≡ None
    none_touched = no_conflict m s later (reads params from) un

    sources_named : AllByRecursion (λ (x : Source). Named s later (table_in x.from)) from.sources
    sources_named = names_untouched m s later p params from none_touched known.apart

    from_same : rows_now now p params from ≡ rows_now s p params from
    from_same = rows_same b.mask b.number m s later p known params from none_touched

    docs_named : AllByRecursion (NamedRow s later p from) (rows_now s p params from)
    docs_named =
        all_named_docs m s later p params from (fits_before s later known.fit) known.own_fit (inr known.steady)
        none_touched

    changes_touchable : (c : Change) → ((n : ℕ) → is_root from.sources c n ≡ true → Told s later p from n)
        → OfAll (Touchable s later p.log p.schema) (changed_documents params c (rows_now s p params from))
    changes_touchable c told =
        changed_at (NamedDoc s later p from) (Touchable s later p.log p.schema) from.sources c params
        (rows_now s p params from) (λ n root id. named_touchable s later p from n id (told n root)) docs_named

    deletes_touchable : Told s later p from 0
        → AllByRecursion (Touchable s later p.log p.schema) (deleted_documents (rows_now s p params from))
    deletes_touchable told =
        deleted_at (NamedDoc s later p from) (Touchable s later p.log p.schema) from.sources
        (rows_now s p params from) (λ id. named_touchable s later p from 0 id told) docs_named

    absent_same : first_absent now p from.sources ≡ first_absent s p from.sources
    absent_same = first_absent_same m s later p params from from.sources sources_named

    effect_by : (x y : Result Effect Refusal) → x ≡ y
        → reading (read_by_sources (schemas_now now p) (views_of now p) params from) x
        ≡ reading (reads params from) y
    effect_by x y same =
        ap (reading (read_by_sources (schemas_now now p) (views_of now p) params from)) same
        ∙ ap (λ is. reading is y) (reads_same b.mask b.number m s later p known params from none_touched)

  effect_same : (params : List Value) (from : FromClause) (x y : Result Effect Refusal) → x ≡ y
      → AllByRecursion (Untouched s later) (reads params from)
      → reading (read_by_sources (schemas_now now p) (views_of now p) params from) x
      ≡ reading (reads params from) y
  effect_same params from x y same un = effect_by params from un x y same

  -- where a statement isn't refused for the names of its tables
  unless_same : (o : Option Refusal) (x y : Result Effect Refusal) → (o ≡ None → x ≡ y) → unless o x ≡ unless o y
  unless_same None x y h = h refl
  unless_same (Some cause) x y h = refl

  abbrev pub Asks : Statement → Type 0
  Asks st = (changes_no_history st ≡ true) ⊎ Pends s later p

  told_at : (from : FromClause) (w : ℕ → Bool) → (no_history_of w 0 from.sources ≡ true) ⊎ Pends s later p
      → first_own w 0 from.sources ≡ None → (n : ℕ) → w n ≡ true → Told s later p from n
  told_at from w (inr pends) own n h = inr pends
  told_at from w (inl past) own n h =
      let same : n ≡ 0 + n = omega arith in
      inl (λ x at. written_plain w 0 from.sources own past n x at (subst (λ i. w i ≡ true) same h))

  changed_same : (params : List Value) (from : FromClause) (c : Change)
      → (no_history_of (is_root from.sources c) 0 from.sources ≡ true) ⊎ Pends s later p
      → AllByRecursion (Untouched s later) (reads params from)
      → changed now p params from c ≡ changed s p params from c
  changed_same params from c asks un =
      unless_same (first_own (is_root from.sources c) 0 from.sources) _ _ (λ own.
      let docs = changed_documents params c (rows_now s p params from) in
      ap (λ o. unless o (stored_changes now p (changed_documents params c (rows_now now p params from))))
      (absent_same params from un)
      ∙ ap (λ rows. unless (first_absent s p from.sources)
      (stored_changes now p (changed_documents params c rows))) (from_same params from un)
      ∙ ap (λ e. unless (first_absent s p from.sources) e)
      (changes_same s later docs p
      (changes_touchable params from un c (told_at from (is_root from.sources c) asks own))))

  deleted_same : (params : List Value) (from : FromClause)
      → (no_history_of (λ n. true) 0 from.sources ≡ true) ⊎ Pends s later p
      → AllByRecursion (Untouched s later) (reads params from)
      → deleted now p params from ≡ deleted s p params from
  deleted_same params from asks un =
      unless_same (first_own (λ n. true) 0 from.sources) _ _ (λ own.
      let docs = deleted_documents (rows_now s p params from) in
      ap (λ o. unless o (stored_deletes now p (deleted_documents (rows_now now p params from))))
      (absent_same params from un)
      ∙ ap (λ rows. unless (first_absent s p from.sources)
      (stored_deletes now p (deleted_documents rows))) (from_same params from un)
      ∙ ap (λ e. unless (first_absent s p from.sources) e)
      (deletes_same s later docs p (deletes_touchable params from un (told_at from (λ n. true) asks own 0 refl))))

  pub statement_same : (params : List Value) (st : Statement) → Asks st
      → AllByRecursion (Untouched s later) (footprint_of (schemas_now s p) (views_of s p) params st)
      → effect_of b now p params st ≡ effect_of b s p params st
  statement_same params (statement.Create name) told un =
      ap (reading (item.TableName name ∷ item.TableList ∷ [])) (created_same name un.1.0)
  statement_same params (statement.Insert name e) told un =
      ap (reading (item.TableName name ∷ [])) (inserted_same params name e un.0)
  statement_same params (statement.Select select from) told un = selected_same params select from un
  statement_same params (statement.Index name field) told un =
      ap (reading (item.TableName name ∷ [])) (indexed_same name field un.0)
  statement_same params (statement.Drop name) told un =
      ap (reading (item.TableName name ∷ [])) (dropped_same name un.0)
  statement_same params (statement.Update from change) told un =
      effect_same params from (changed now p params from change) (changed s p params from change)
      (changed_same params from change told un) un
  statement_same params (statement.From from change) told un =
      effect_same params from (changed now p params from change) (changed s p params from change)
      (changed_same params from change told un) un
  statement_same params (statement.Delete from) told un =
      effect_same params from (deleted now p params from) (deleted s p params from)
      (deleted_same params from told un) un
  statement_same params (statement.Redact address table document) told un =
      let o = named_revision params address table document in
      ap (reading (items_named o)) (named_same s later p o known.steady un)

  -- ---- the tables of what a statement pends stand

  first_in_table : (table : TableId) (id : ℕ) (v : Value) (x : Result Effect Refusal) → Stands s later p.schema table
      → ResultStands s later p.schema x
      → ResultStands s later p.schema (and_then (new_document id table v) x)
  first_in_table table id v (Err cause) h k = tt
  first_in_table table id v (Ok f) h k = (h, k)

  all_in_table : (table : TableId) (q : Progress) (vs : List Value) → Stands s later p.schema table
      → ResultStands s later p.schema (stored b table q vs)
  all_in_table table q [] h = tt
  all_in_table table q (v ∷ vs) h =
      let one = new_document (next_id b q) table v in
      unless_stands s later p.schema (not_stored q v) _
      (first_in_table table (next_id b q) v (stored b table (changed_by q one) vs) h
      (all_in_table table (changed_by q one) vs h))

  documents_stand : (table : TableId) (x : Result (List Value) Refusal) → Stands s later p.schema table
      → ResultStands s later p.schema (if_documents x (stored b table p))
  documents_stand table (Err cause) h = tt
  documents_stand table (Ok vs) h = all_in_table table p vs h

  on_table_stands : (name : List ℕ) (o : Option TableId) (f : TableId → Result Effect Refusal) → table_now s p name ≡ o
      → ((table : TableId) → table_now s p name ≡ Some table → ResultStands s later p.schema (f table))
      → ResultStands s later p.schema (on_table name o f)
  on_table_stands name None f is each = tt
  on_table_stands name (Some table) f is each = each table is

  revision_stands : (n : RevisionName) (o : Option Recorded)
      → ResultStands s later p.schema (of_revision s.revisions p.schema (redaction_of n) o)
  revision_stands n None = tt
  revision_stands n (Some r) = unless_stands s later p.schema (not_redacted s.revisions p.schema r) _ tt

  redaction_stands : (o : Option RevisionName) → ResultStands s later p.schema (of_name s p o)
  redaction_stands None = tt
  redaction_stands (Some n) = revision_stands n (named_by s.revisions (redaction_of n))

  done_stands : (params : List Value) (st : Statement) → Pends s later p
      → AllByRecursion (Untouched s later) (footprint_of (schemas_now s p) (views_of s p) params st)
      → ResultStands s later p.schema (done_by_statement b s p params st)
  done_stands params (statement.Create name) pends un =
      unless_stands s later p.schema (reserved name)
      _ (unless_stands s later p.schema (existing name (table_now s p name))
      _ (unless_stands s later p.schema (no_table_more (tables_now s p) p.schema) _ tt))
  done_stands params (statement.Insert name e) pends un =
      unless_stands s later p.schema (reserved name) _ (on_table_stands name (table_now s p name) _ refl
      (λ table is. documents_stand table (documents_in (meaning e (under [] params)))
      (named_stands s later p name table is un.0)))
  done_stands params (statement.Select select from) pends un =
      unless_stands s later p.schema (first_absent s p from.sources) _ tt
  done_stands params (statement.Index name field) pends un =
      unless_stands s later p.schema (reserved name) _ (on_table_stands name (table_now s p name) _ refl (λ table is.
      unless_stands s later p.schema (existing_index (indexes_now s p) name field table)
      _ (unless_stands s later p.schema (no_index_more (indexes_now s p) table) _ tt)))
  done_stands params (statement.Drop name) pends un =
      unless_stands s later p.schema (reserved name)
      _ (on_table_stands name (table_now s p name) _ refl (λ table is. tt))
  done_stands params (statement.Update from change) pends un =
      unless_stands s later p.schema (first_own (is_root from.sources change) 0 from.sources) _
      (unless_stands s later p.schema (first_absent s p from.sources) _
      (changes_stand s later _ p (changes_touchable params from un change (λ n root. inr pends))))
  done_stands params (statement.From from change) pends un =
      unless_stands s later p.schema (first_own (is_root from.sources change) 0 from.sources) _
      (unless_stands s later p.schema (first_absent s p from.sources) _
      (changes_stand s later _ p (changes_touchable params from un change (λ n root. inr pends))))
  done_stands params (statement.Delete from) pends un =
      unless_stands s later p.schema (first_own (λ n. true) 0 from.sources) _
      (unless_stands s later p.schema (first_absent s p from.sources) _
      (deletes_stand s later _ p (deletes_touchable params from un (inr pends))))
  done_stands params (statement.Redact address table document) pends un =
      redaction_stands (named_revision params address table document)

  reading_stands : (items : List Item) (x : Result Effect Refusal) → ResultStands s later p.schema x
      → ResultStands s later p.schema (reading items x)
  reading_stands items (Err cause) h = tt
  reading_stands items (Ok e) h = h

  pub statement_stands : (params : List Value) (st : Statement) → Pends s later p
      → AllByRecursion (Untouched s later) (footprint_of (schemas_now s p) (views_of s p) params st)
      → (e : Effect) → effect_of b s p params st ≡ Ok e
      → AllByRecursion (λ (d : Draft). Stands s later p.schema d.table) e.log
  statement_stands params st pends un e is =
      subst (ResultStands s later p.schema) is (reading_stands (footprint_of (schemas_now s p) (views_of s p) params st)
      (done_by_statement b s p params st) (done_stands params st pends un))

-- ---- at a place of the journal

settled_apart : (mask n : ℕ) (blocks : List Block) (since : ℕ) (pending : List Draft) → AllFollow mask empty blocks
    → StandsInNone mask n blocks
    → AllByRecursion (IsSettled mask n (drop since blocks)) pending → Apart (drop since blocks) pending
settled_apart mask n blocks since [] follow none h = tt
settled_apart mask n blocks since (d ∷ ds) follow none h = (
  elim h.0 as (λ _. list_any (block_revises d.id.raw) (drop since blocks) ≡ false) [
    | inl own ↦ (own_is_apart mask n blocks since (d ∷ []) follow none (own, tt)).0
    | inr unrevised ↦ unrevised
  ],
  settled_apart mask n blocks since ds follow none h.1,
)

pub known_beside : (mask n : ℕ) (blocks : List Block) (since : ℕ) (p : Progress) → Beside mask n blocks since p
    → Known mask n (state (take since blocks)) (drop since blocks) p
known_beside mask n blocks since p beside = record {
  apart = settled_apart mask n blocks since p.log beside.follow beside.number beside.documents;
  own_index = λ table own. own_index_behind mask n blocks since table own beside.follow beside.number;
  tables = beside.tables;
  fit = subst (λ (x : State). IdsFit (map draft_of x.revisions)) (state_split empty since blocks) beside.fit;
  own_fit = beside.own_fit;
  steady = steady_behind mask empty (take since blocks) (follow_take mask n since empty blocks beside.follow) tt;
}

pub statement_is_framed : StatementIsFramed
statement_is_framed b blocks since p text params st read beside none =
    let s = state (take since blocks) in
    let later = drop since blocks in
    let known = known_beside b.mask b.number blocks since p beside in
    ap (λ x. effect_of b x p params st) (state_split empty since blocks)
    ∙ statement_same b since s later p known params st (inl (read_changes_none text st read))
    (all_untouched since s later (footprint_of (schemas_now s p) (views_of s p) params st) none)

pub rows_are_framed : RowsAreFramed
rows_are_framed mask n blocks since p params from beside none =
    let s = state (take since blocks) in
    let later = drop since blocks in
    let known = known_beside mask n blocks since p beside in
    let split = state_split empty since blocks in (
      ap (λ x. rows_of (views_of x p) params from) split
          ∙ rows_same mask n since s later p known params from none,
      ap (λ x. sources_read (schemas_now x p) (views_of x p) params from) split
          ∙ sources_same_here mask n since s later p known params from none,
    )

pub covered_rows_are_framed : CoveredRowsAreFramed
covered_rows_are_framed mask n blocks since p params from own beside fits before behind none =
    let s = state (take since blocks) in
    let later = drop since blocks in
    let known = known_beside mask n blocks since p beside in
    let split = state_split empty since blocks in
    let all = flat_map (λ is. is) own in
    let un = all_untouched since s later (names_read from.sources ++ all) none in
    let covers = subst (λ x. Covers (views_of x p) params from is_known (reads_by (schemas_now s p) from.sources own))
    split behind in
    ap (λ x. rows_of (views_of x p) params from) split
    ∙ covered_framed since s later p params from own known.apart fits before covers
    (from_start from.sources) (from_start own) (all_right (Untouched s later) (names_read from.sources) all un)
    (all_named s later from.sources (all_left (Untouched s later) (names_read from.sources) all un)) known.fit
    known.own_fit

pub source_is_still : SourceIsStill
source_is_still mask n blocks since p params kind items beside fits none =
    let s = state (take since blocks) in
    let later = drop since blocks in
    let known = known_beside mask n blocks since p beside in
    let un =
    first_name s later (table_in kind) items
    (all_untouched since s later (cons_option (option_map item.TableName (table_in kind)) items) none) in
    ap (λ x. filter (is_read_by (schemas_now s p) kind items) (rows_given (views_of x p) params kind))
    (state_split empty since blocks)
    ∙ kind_same since s later p params items (no_conflict since s later items un.1) known.apart kind fits un.0

pub name_is_framed : NameIsFramed
name_is_framed mask n blocks since p name beside none =
    let s = state (take since blocks) in
    let later = drop since blocks in
    let known = known_beside mask n blocks since p beside in
    let split = state_split empty since blocks in
    let un : Untouched s later (item.TableName name) =
    (all_untouched since s later (item.TableName name ∷ []) none).0 in (
      ap (λ x. table_now x p name) split ∙ table_same s later p name un,
      λ table is. ap (λ x. indexes_of table (schemas_now x p).indexes) split
          ∙ indexes_known mask n since s later p known name table un is,
    )
