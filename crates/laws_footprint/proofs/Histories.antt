-- The rows of a history, and its stillness: what is shown of a revision depends on the document's next one.
use Rattle.std.proofs.Common.{◌≡◌, ◌∙◌, inl, inr, ℕ, ◌+◌, Bool, true, false, not, cond, ◌==◌, ◌&&◌, ◌||◌, List, [], ◌∷◌, ◌++◌, refl, sym, ap, subst, Option, Some, None}
use Rattle.std.specs.Prelude.{ℤ, if◌then◌else◌}
use Rattle.std.specs.List.{AllByRecursion, filter, find, list_all, list_any}
use Rattle.std.proofs.lemmas.Bool.{and_cases, and_left, and_parts, and_right, both_ways, eq-eqb, eqb-true, false_from_ne_true, false≢true, not-true, or_from, or_parts}
use Rattle.std.proofs.lemmas.List.{append_assoc}
use Rattle.ion_values.specs.declared.value.Value.{Value}
use Rattle.ql_types.specs.declared.TableId.{TableId}
use Rattle.pql_model.specs.declared.expr.Expr.{Expr}
use Rattle.pql_model.specs.declared.statement.SourceKind.{SourceKind}
use Rattle.pql_model.specs.declared.statement.SourceKind.TheVariants as source
use Rattle.pql_model.specs.declared.tables.Row.{Row}
use Rattle.ledger_model.specs.CommittedViews.{began, ended, ended_by, history_view, is_between, is_historic, next_began, row_showing}
use Rattle.ledger_model.specs.declared.block.Block.{Block}
use Rattle.ledger_model.specs.declared.block.Content.{Content}
use Rattle.ledger_model.specs.declared.block.Content.TheVariants.{Deleted, Kept, Redacted}
use Rattle.ledger_model.specs.declared.block.Revision.{Revision}
use Rattle.ledger_model.specs.declared.block.Schema.{Schema}
use Rattle.ledger_model.specs.declared.block.Schema.TheVariants.{Create, Index, Drop, Redact}
use Rattle.ledger_model.specs.declared.outcome.Item.{Item}
use Rattle.ledger_model.specs.declared.outcome.Item.TheVariants as item
use Rattle.ledger_model.specs.Follows.{all_differ, continues, created_ids, document_ids, follows, has_table, ids_follow, is_kept, is_of, latest_of, made_ids, revision_follows, schema_follows}
use Rattle.ledger_model.specs.Script.{or_else}
use Rattle.ledger_model.specs.State.{Recorded, State, after, hashed, is_redacted_by, is_revised, recorded_in, redacts, revisions_after, same_address, state_from}
use Rattle.laws_footprint.specs.Covered.{no_key}
use Rattle.ledger_model.specs.Meets.{document_shown, meets, shows_one}
use Rattle.laws_footprint.specs.Own.{AllFollow}
use Rattle.laws_footprint.specs.Stillness.{block_revises, has_revision_of}
use Rattle.laws_footprint.specs.Touches.{conflict_from, id_of, is_in, is_of_table, redacts_document, redacts_in, revisions_in, touched, touches_document}
use Rattle.ledger_model.proofs.Redactions.{each_after, hidden_if, is_hidden}
use Rattle.laws_footprint.proofs.Documents.{latest_of-append, latest_of_after}
use Rattle.pql_model.proofs.Equality.{inside}
use Rattle.laws_footprint.proofs.Pending.{swapped}
use Rattle.laws_footprint.proofs.Revised.{absent}
use Rattle.laws_footprint.proofs.Rows.{all_joined}
use Rattle.laws_footprint.proofs.Still.{none_found, none_named, one_of, revision_touches, revisions_untouched}
use Rattle.laws_footprint.proofs.StillDocuments.{latest_id}

-- the latest revision of a document is in the table
abbrev pub HasTable : State → ℕ → TableId → Type 0
HasTable s id table = (x : Recorded) × (latest_of s.revisions id ≡ Some x) × (x.table.raw ≡ table.raw)

other_raw : (a read table : ℕ) → a ≡ table → (a == read) ≡ false → (read == table) ≡ false
other_raw a read table same other = subst (λ n. (read == n) ≡ false) same (swapped a read other)

-- ---- the next revision

none_next : (id : ℕ) (rs : List Recorded) → list_any (has_revision_of id) rs ≡ false → next_began id rs ≡ None
none_next id [] h = refl
none_next id (r ∷ rs) h =
    let parts = or_parts (id_of r == id) (list_any (has_revision_of id) rs) h in
    ap (λ b. cond b (Some (began r)) (next_began id rs)) parts.0 ∙ none_next id rs parts.1

none_more : (id : ℕ) (rs new : List Recorded) → list_any (has_revision_of id) new ≡ false
    → next_began id (rs ++ new) ≡ next_began id rs
none_more id [] new h = none_next id new h
none_more id (r ∷ rs) new h = ap (λ o. cond (id_of r == id) (Some (began r)) o) (none_more id rs new h)

next_by : (at : ℤ) (more rest : Option ℤ) (b any : Bool) → (b || any) ≡ true → (any ≡ true → more ≡ rest)
    → cond b (Some at) more ≡ cond b (Some at) rest
next_by at more rest true any h ih = refl
next_by at more rest false any h ih = ih h

next_there : (id : ℕ) (rs new : List Recorded) → list_any (has_revision_of id) rs ≡ true
    → next_began id (rs ++ new) ≡ next_began id rs
next_there id [] new h = absurd (false≢true h)
next_there id (r ∷ rs) new h =
    next_by (began r) (next_began id (rs ++ new)) (next_began id rs) (id_of r == id)
    (list_any (has_revision_of id) rs) h (next_there id rs new)

-- ---- redactions

next_after : (changes : List Schema) (id : ℕ) (rs new : List Recorded)
    → next_began id (revisions_after changes rs ++ new) ≡ next_began id (rs ++ new)
next_after changes id [] new = refl
next_after changes id (r ∷ rs) new = ap (λ o. cond (id_of r == id) (Some (began r)) o) (next_after changes id rs new)

ended_hidden : (c : Bool) (content : Content) (at : ℤ) (next : Option ℤ)
    → ended_by (if c then hashed content else content) at next ≡ ended_by content at next
ended_hidden false content at next = refl
ended_hidden true Deleted at next = refl
ended_hidden true (Kept v) at next = refl
ended_hidden true (Redacted hash) at next = refl

historic_after : (table : TableId) (start end : Option Value) (changes : List Schema) (r : Recorded) (c : Bool)
    (rs new : List Recorded)
    → is_historic table start end (hidden_if c r) (revisions_after changes rs ++ new)
    ≡ is_historic table start end r (rs ++ new)
historic_after table start end changes r c rs new =
    ap (λ o. (r.table.raw == table.raw) && is_between start end (began r) o)
    (ended_hidden c r.revision.content (began r) (next_began (id_of r) (revisions_after changes rs ++ new))
    ∙ ap (ended_by r.revision.content (began r)) (next_after changes (id_of r) rs new))

-- one of the changes that redacts the revision
abbrev OneRedacts : List Schema → Recorded → Type 0
OneRedacts changes r =
    (c : Schema) × (redacts r c ≡ true) × ((p : Schema → Bool) → list_any p changes ≡ false → p c ≡ false)

redacting_by : (c : Schema) (cs : List Schema) (r : Recorded) (b : Bool) → redacts r c ≡ b
    → (b || is_redacted_by cs r) ≡ true → (is_redacted_by cs r ≡ true → OneRedacts cs r) → OneRedacts (c ∷ cs) r
redacting_by c cs r true e h rest = (c, e, λ p none. (or_parts (p c) (list_any p cs) none).0)
redacting_by c cs r false e h rest =
    let w = rest h in (w.0, w.1, λ p none. w.2 p (or_parts (p c) (list_any p cs) none).1)

redacting : (changes : List Schema) (r : Recorded) → is_redacted_by changes r ≡ true → OneRedacts changes r
redacting [] r h = absurd (false≢true h)
redacting (c ∷ cs) r h = redacting_by c cs r (redacts r c) refl h (redacting cs r)

other_table_named : (r : Recorded) (c : Schema) (read : TableId) → redacts r c ≡ true → redacts_in read c ≡ false
    → (r.table.raw == read.raw) ≡ false
other_table_named r (Create n id) read h not = absurd (false≢true h)
other_table_named r (Index field id) read h not = absurd (false≢true h)
other_table_named r (Drop n id) read h not = absurd (false≢true h)
other_table_named r (Redact a t d) read h not =
    let both = (and_parts (same_address r.revision.address a && (r.table.raw == t.raw)) (id_of r == d.raw) h).0 in
    let same = (and_parts (same_address r.revision.address a) (r.table.raw == t.raw) both).1 in
    ap (λ n. n == read.raw) (eqb-true r.table.raw t.raw same) ∙ not

other_document_named : (r : Recorded) (c : Schema) (read : TableId) (id : ℕ) → redacts r c ≡ true
    → redacts_document read id c ≡ false → ((r.table.raw == read.raw) && (id_of r == id)) ≡ false
other_document_named r (Create n i) read id h not = absurd (false≢true h)
other_document_named r (Index field i) read id h not = absurd (false≢true h)
other_document_named r (Drop n i) read id h not = absurd (false≢true h)
other_document_named r (Redact a t d) read id h not =
    let parts = and_parts (same_address r.revision.address a && (r.table.raw == t.raw)) (id_of r == d.raw) h in
    let same = (and_parts (same_address r.revision.address a) (r.table.raw == t.raw) parts.0).1 in
    ap (λ n. (n == read.raw) && (id_of r == id)) (eqb-true r.table.raw t.raw same)
    ∙ ap (λ n. (t.raw == read.raw) && (n == id)) (eqb-true (id_of r) d.raw parts.1) ∙ not

module _ (name : List ℕ) (from to : Option Expr) (table : TableId) (items : List Item) where
  abbrev kind : SourceKind
  kind = source.History name from to

  abbrev pub test : Row → Bool
  test row = list_any (λ i. no_key i && meets table i (document_shown kind row)) items

  -- ---- one block

  module _ (s : State) (b : Block) (un : AllByRecursion (λ i. touched s b i ≡ false) items) where
    abbrev new : List Recorded
    new = revisions_in b

    abbrev met_by : Row → Item → Bool
    met_by row i = no_key i && meets table i (document_shown kind row)

    unmet_item : (i : Item) (w : Recorded) (row : Row)
        → ((read : TableId) → is_of_table s read w ≡ false → (read.raw == table.raw) ≡ false) → id_of w ≡ row.id.raw
        → revision_touches s b i w ≡ false → met_by row i ≡ false
    unmet_item (item.TableName n) w row not_in same not = refl
    unmet_item item.TableList w row not_in same not = refl
    unmet_item (item.IndexValue read field k) w row not_in same not = refl
    unmet_item (item.Table read) w row not_in same not = not_in read not
    unmet_item (item.Doc read id) w row not_in same not =
        elim (and_cases (is_of_table s read w) (id_of w == id.raw) not) as
        (λ _. ((read.raw == table.raw) && (row.id.raw == id.raw)) ≡ false) [
          | inl other ↦ and_left (read.raw == table.raw) _ (not_in read other)
          | inr other ↦ and_right (read.raw == table.raw) _ (subst (λ n. (n == id.raw) ≡ false) same other)
        ]

    all_unmet : (row : Row) (xs : List Item) → AllByRecursion (λ i. touched s b i ≡ false) xs
        → ((i : Item) → touched s b i ≡ false → met_by row i ≡ false) → list_any (met_by row) xs ≡ false
    all_unmet row [] h each = refl
    all_unmet row (i ∷ xs) h each =
        or_from (met_by row i) (list_any (met_by row) xs) (each i h.0) (all_unmet row xs h.1 each)

    not_in_latest : (w : Recorded) (id : ℕ) → id_of w ≡ id → HasTable s id table → (read : TableId)
        → is_of_table s read w ≡ false → (read.raw == table.raw) ≡ false
    not_in_latest w id same at read not =
        let parts = or_parts (is_in read (Some w)) (is_in read (latest_of s.revisions (id_of w))) not in
        let there : latest_of s.revisions (id_of w) ≡ Some at.0 = ap (latest_of s.revisions) same ∙ at.1 in
        other_raw (at.0).table.raw read.raw table.raw at.2 (sym (ap (is_in read) there) ∙ parts.1)

    revised_unmet : (row : Row) → HasTable s row.id.raw table → block_revises row.id.raw b ≡ true → test row ≡ false
    revised_unmet row at has =
        all_unmet row items un (λ i h.
        let w = one_of (revision_touches s b i) row.id.raw new has (revisions_untouched s b table i h) in
        unmet_item i w.0 row (not_in_latest w.0 row.id.raw w.1 at) w.1 w.2)

    -- so the block has no revision of a document that is met
    pub met_unrevised : (row : Row) → HasTable s row.id.raw table → test row ≡ true
        → block_revises row.id.raw b ≡ false
    met_unrevised row at met =
        false_from_ne_true (block_revises row.id.raw b) (λ has. both_ways (test row) (revised_unmet row at has) met)

    module _ (start end : Option Value) where
      -- ---- the block's own revisions aren't met

      new_row : (row : Row) (rows : List Row) (a c : Bool) → (a ≡ true → test row ≡ false) → filter test rows ≡ []
          → filter test (cond (a && c) (row ∷ rows) rows) ≡ []
      new_row row rows true true h ih = ap (λ v. cond v (row ∷ filter test rows) (filter test rows)) (h refl) ∙ ih
      new_row row rows true false h ih = ih
      new_row row rows false c h ih = ih

      not_in_own : (w : Recorded) → (w.table.raw == table.raw) ≡ true → (read : TableId) → is_of_table s read w ≡ false
          → (read.raw == table.raw) ≡ false
      not_in_own w here read not =
          other_raw w.table.raw read.raw table.raw (eqb-true w.table.raw table.raw here)
          (or_parts (is_in read (Some w)) (is_in read (latest_of s.revisions (id_of w))) not).0

      new_silent : (rs : List Recorded) → ((i : Item) → touched s b i ≡ false
          → list_any (revision_touches s b i) rs ≡ false) → filter test (history_view table start end rs) ≡ []
      new_silent [] each = refl
      new_silent (r ∷ rs) each =
          new_row (row_showing r) (history_view table start end rs) (r.table.raw == table.raw) _
          (λ here. all_unmet (row_showing r) items un
          (λ i h. unmet_item i r (row_showing r) (not_in_own r here) refl
          (or_parts (revision_touches s b i r) (list_any (revision_touches s b i) rs) (each i h)).0))
          (new_silent rs (λ i h. (or_parts (revision_touches s b i r) (list_any (revision_touches s b i) rs)
          (each i h)).1))

      -- ---- the revisions before it

      skipped : (row : Row) (rows : List Row) (h : Bool) → test row ≡ false
          → filter test (cond h (row ∷ rows) rows) ≡ filter test rows
      skipped row rows true e = ap (λ v. cond v (row ∷ filter test rows) (filter test rows)) e
      skipped row rows false e = refl

      kept_row : (row : Row) (rows more : List Row) (h : Bool) → filter test rows ≡ filter test more
          → filter test (cond h (row ∷ rows) rows) ≡ filter test (cond h (row ∷ more) more)
      kept_row row rows more true ih = ap (λ xs. cond (test row) (row ∷ xs) xs) ih
      kept_row row rows more false ih = ih

      last_one : (before rs : List Recorded) (r : Recorded) → s.revisions ≡ before ++ r ∷ rs
          → list_any (has_revision_of (id_of r)) rs ≡ false → latest_of s.revisions (id_of r) ≡ Some r
      last_one before rs r is none =
          ap (λ xs. latest_of xs (id_of r)) is ∙ latest_of-append before (r ∷ rs) (id_of r)
          ∙ ap (λ o. or_else (or_else o (cond (id_of r == id_of r) (Some r) None)) (latest_of before (id_of r)))
          (absent (id_of r) rs none)
          ∙ ap (λ v. or_else (cond v (Some r) None) (latest_of before (id_of r))) (eq-eqb (id_of r) (id_of r) refl)

      next_same : (before rs : List Recorded) (r : Recorded) (any : Bool) → s.revisions ≡ before ++ r ∷ rs
          → (r.table.raw == table.raw) ≡ true → test (row_showing r) ≡ true
          → list_any (has_revision_of (id_of r)) rs ≡ any → next_began (id_of r) (rs ++ new) ≡ next_began (id_of r) rs
      next_same before rs r true is here met e = next_there (id_of r) rs new e
      next_same before rs r false is here met e =
          none_more (id_of r) rs new (met_unrevised (row_showing r)
          (r, last_one before rs r is e, eqb-true r.table.raw table.raw here) met)

      historic_same : (before rs : List Recorded) (r : Recorded) (here : Bool) → s.revisions ≡ before ++ r ∷ rs
          → (r.table.raw == table.raw) ≡ here → test (row_showing r) ≡ true
          → is_historic table start end r (rs ++ new) ≡ is_historic table start end r rs
      historic_same before rs r false is e met =
          ap (λ v. v && is_between start end (began r)
          (ended_by r.revision.content (began r) (next_began (id_of r) (rs ++ new)))) e
          ∙ sym (ap (λ v. v && is_between start end (began r)
          (ended_by r.revision.content (began r) (next_began (id_of r) rs))) e)
      historic_same before rs r true is e met =
          ap (λ o. (r.table.raw == table.raw) && is_between start end (began r)
          (ended_by r.revision.content (began r) o))
          (next_same before rs r (list_any (has_revision_of (id_of r)) rs) is e met refl)

      one_row : (before rs : List Recorded) (r : Recorded) (met : Bool) → s.revisions ≡ before ++ r ∷ rs
          → test (row_showing r) ≡ met
          → filter test (history_view table start end (rs ++ new)) ≡ filter test (history_view table start end rs)
          → filter test (history_view table start end (r ∷ rs ++ new))
          ≡ filter test (history_view table start end (r ∷ rs))
      one_row before rs r false is e ih =
          skipped (row_showing r) (history_view table start end (rs ++ new))
          (is_historic table start end r (rs ++ new)) e ∙ ih
          ∙ sym (skipped (row_showing r) (history_view table start end rs) (is_historic table start end r rs) e)
      one_row before rs r true is e ih =
          ap (λ h. filter test (cond h (row_showing r ∷ history_view table start end (rs ++ new))
          (history_view table start end (rs ++ new))))
          (historic_same before rs r (r.table.raw == table.raw) is refl e)
          ∙ kept_row (row_showing r) (history_view table start end (rs ++ new)) (history_view table start end rs)
          (is_historic table start end r rs) ih

      rows_before : (before rs : List Recorded) → s.revisions ≡ before ++ rs
          → filter test (history_view table start end (rs ++ new)) ≡ filter test (history_view table start end rs)
      rows_before before [] is = new_silent new (λ i h. revisions_untouched s b table i h)
      rows_before before (r ∷ rs) is =
          one_row before rs r (test (row_showing r)) is refl
          (rows_before (before ++ r ∷ []) rs (is ∙ sym (append_assoc before (r ∷ []) rs)))

      -- ---- those that it redacts

      redacted_met : (r : Recorded) (c : Schema) → redacts r c ≡ true → (r.table.raw == table.raw) ≡ true → (i : Item)
          → ((p : Schema → Bool) → list_any p b.info.schema ≡ false → p c ≡ false) → touched s b i ≡ false
          → met_by (row_showing r) i ≡ false
      redacted_met r c names here (item.TableName n) none not = refl
      redacted_met r c names here item.TableList none not = refl
      redacted_met r c names here (item.IndexValue read field k) none not = refl
      redacted_met r c names here (item.Table read) none not =
          let apart = (or_parts (list_any (is_of_table s read) new) (list_any (redacts_in read) b.info.schema) not).1 in
          other_raw r.table.raw read.raw table.raw (eqb-true r.table.raw table.raw here)
          (other_table_named r c read names (none (redacts_in read) apart))
      redacted_met r c names here (item.Doc read id) none not =
          let apart =
          (or_parts (list_any (touches_document s read id.raw) new)
          (list_any (redacts_document read id.raw) b.info.schema) not).1 in
          elim (and_cases (r.table.raw == read.raw) (id_of r == id.raw)
          (other_document_named r c read id.raw names (none (redacts_document read id.raw) apart))) as
          (λ _. ((read.raw == table.raw) && (id_of r == id.raw)) ≡ false) [
            | inl other ↦ and_left (read.raw == table.raw) _
                (other_raw r.table.raw read.raw table.raw (eqb-true r.table.raw table.raw here) other)
            | inr other ↦ and_right (read.raw == table.raw) _ other
          ]

      redacted_unmet : (r : Recorded) → (r.table.raw == table.raw) ≡ true → is_redacted_by b.info.schema r ≡ true
          → test (row_showing r) ≡ false
      redacted_unmet r here h =
          let w = redacting b.info.schema r h in
          all_unmet (row_showing r) items un (λ i not. redacted_met r w.0 w.1 here i w.2 not)

      shown_same : (c : Bool) (r : Recorded) (i : Item)
          → met_by (row_showing (hidden_if c r)) i ≡ met_by (row_showing r) i
      shown_same c r (item.TableName n) = refl
      shown_same c r item.TableList = refl
      shown_same c r (item.Table read) = refl
      shown_same c r (item.Doc read id) = refl
      shown_same c r (item.IndexValue read field k) = refl

      test_same : (c : Bool) (r : Recorded) (xs : List Item)
          → list_any (met_by (row_showing (hidden_if c r))) xs ≡ list_any (met_by (row_showing r)) xs
      test_same c r [] = refl
      test_same c r (i ∷ xs) =
          ap (λ v. v || list_any (met_by (row_showing (hidden_if c r))) xs) (shown_same c r i)
          ∙ ap (λ v. met_by (row_showing r) i || v) (test_same c r xs)

      redacted_row : (r : Recorded) (c met a x : Bool) (now rows : List Row) → test (row_showing r) ≡ met
          → (r.table.raw == table.raw) ≡ a → (c ≡ true → is_redacted_by b.info.schema r ≡ true)
          → filter test now ≡ filter test rows
          → filter test (cond (a && x) (row_showing (hidden_if c r) ∷ now) now)
          ≡ filter test (cond (a && x) (row_showing r ∷ rows) rows)
      redacted_row r c false a x now rows e here h ih =
          skipped (row_showing (hidden_if c r)) now (a && x) (test_same c r items ∙ e) ∙ ih
          ∙ sym (skipped (row_showing r) rows (a && x) e)
      redacted_row r false true a x now rows e here h ih = kept_row (row_showing r) now rows (a && x) ih
      redacted_row r true true false x now rows e here h ih = ih
      redacted_row r true true true x now rows e here h ih =
          absurd (both_ways (test (row_showing r)) (redacted_unmet r here (h refl)) e)

      redacted_rows : (rs : List Recorded)
          → filter test (history_view table start end (revisions_after b.info.schema rs ++ new))
          ≡ filter test (history_view table start end (rs ++ new))
      redacted_rows [] = refl
      redacted_rows (r ∷ rs) =
          let c : Bool = is_hidden b.info.schema rs r in
          let now : List Row = history_view table start end (revisions_after b.info.schema rs ++ new) in
          ap (λ h. filter test (cond h (row_showing (hidden_if c r) ∷ now) now))
          (historic_after table start end b.info.schema r c rs new)
          ∙ redacted_row r c (test (row_showing r)) (r.table.raw == table.raw)
          (is_between start end (began r) (ended r (rs ++ new)))
          now (history_view table start end (rs ++ new)) refl refl
          (λ h. (and_parts (is_redacted_by b.info.schema r) (is_revised rs r) h).0) (redacted_rows rs)

      pub one_block : filter test (history_view table start end (after s b).revisions)
          ≡ filter test (history_view table start end s.revisions)
      one_block = redacted_rows s.revisions ∙ rows_before [] s.revisions refl

    -- the document stays in its table
    table_after : (row : Row) → HasTable s row.id.raw table → block_revises row.id.raw b ≡ false
        → HasTable (after s b) row.id.raw table
    table_after row at not = (
      at.0,
      latest_of_after s b row.id.raw
          ∙ ap (λ o. or_else o (latest_of s.revisions row.id.raw)) (absent row.id.raw new not) ∙ at.1,
      at.2,
    )

  -- ---- all blocks

  pub history_still : (m : ℕ) (s : State) (later : List Block) (start end : Option Value)
      → conflict_from m s later items ≡ None
      → filter test (history_view table start end (state_from s later).revisions)
      ≡ filter test (history_view table start end s.revisions)
  history_still m s [] start end none = refl
  history_still m s (b ∷ bs) start end none =
      let parts = none_named m (find (touched s b) items) (conflict_from (m + 1) (after s b) bs items) none in
      history_still (m + 1) (after s b) bs start end parts.1
      ∙ one_block s b (none_found (touched s b) items parts.0) start end

  pub historic_unrevised : (m : ℕ) (s : State) (later : List Block) (row : Row) → conflict_from m s later items ≡ None
      → HasTable s row.id.raw table → test row ≡ true
      → list_any (block_revises row.id.raw) later ≡ false
  historic_unrevised m s [] row none at met = refl
  historic_unrevised m s (b ∷ bs) row none at met =
      let parts = none_named m (find (touched s b) items) (conflict_from (m + 1) (after s b) bs items) none in
      let un = none_found (touched s b) items parts.0 in
      let not = met_unrevised s b un row at met in
      or_from (block_revises row.id.raw b) _ not
      (historic_unrevised (m + 1) (after s b) bs row parts.1 (table_after s b un row at not) met)

-- ---- each document stays in its table where blocks follow one another

abbrev pub Steady : State → Type 0
Steady s = AllByRecursion (λ (r : Recorded). HasTable s (id_of r) r.table) s.revisions

by_rest : (P : Recorded → Type 0) (r x : Recorded) (b : Bool) (o : Option Recorded)
    → or_else o (cond b (Some r) None) ≡ Some x → P r → (o ≡ Some x → P x) → P x
by_rest P r x true None e h rest = subst P (inside r x e) h
by_rest P r x false None e h rest = cc
by_rest P r x b (Some y) e h rest = rest e

pub latest_holds : (P : Recorded → Type 0) (rs : List Recorded) (id : ℕ) (x : Recorded) → AllByRecursion P rs
    → latest_of rs id ≡ Some x → P x
latest_holds P [] id x all e = cc
latest_holds P (r ∷ rs) id x all e =
    by_rest P r x (id_of r == id) (latest_of rs id) e all.0 (latest_holds P rs id x all.1)

no_other : (id : ℕ) (ts : List TableId) (rs : List Revision) → list_any (λ y. id == y) (document_ids rs) ≡ false
    → list_any (has_revision_of id) (recorded_in ts rs) ≡ false
no_other id [] [] h = refl
no_other id [] (r ∷ rs) h = refl
no_other id (t ∷ ts) [] h = refl
no_other id (t ∷ ts) (r ∷ rs) h =
    let parts = or_parts (id == r.metadata.id.raw) (list_any (λ y. id == y) (document_ids rs)) h in
    or_from (r.metadata.id.raw == id) _ (swapped id r.metadata.id.raw parts.0) (no_other id ts rs parts.1)

still_last : (r : Recorded) (rs xs : List Recorded)
    → AllByRecursion (λ (x : Recorded). latest_of rs (id_of x) ≡ Some x) xs
    → AllByRecursion (λ (x : Recorded). latest_of (r ∷ rs) (id_of x) ≡ Some x) xs
still_last r rs [] h = tt
still_last r rs (x ∷ xs) h =
    (ap (λ o. or_else o (cond (id_of r == id_of x) (Some r) None)) h.0, still_last r rs xs h.1)

own_latest : (ts : List TableId) (rs : List Revision) → all_differ (document_ids rs) ≡ true
    → AllByRecursion (λ (x : Recorded). latest_of (recorded_in ts rs) (id_of x) ≡ Some x) (recorded_in ts rs)
own_latest [] [] h = tt
own_latest [] (r ∷ rs) h = tt
own_latest (t ∷ ts) [] h = tt
own_latest (t ∷ ts) (r ∷ rs) h =
    let parts =
    and_parts (not (list_any (λ y. r.metadata.id.raw == y) (document_ids rs))) (all_differ (document_ids rs)) h in
    let first : Recorded = record { table = t; revision = r } in
    let none =
    no_other r.metadata.id.raw ts rs (not-true
    (list_any (λ y. r.metadata.id.raw == y) (document_ids rs)) parts.0) in (
      ap (λ o. or_else o (cond (r.metadata.id.raw == r.metadata.id.raw) (Some first) None))
          (absent r.metadata.id.raw (recorded_in ts rs) none)
          ∙ ap (λ v. cond v (Some first) None) (eq-eqb r.metadata.id.raw r.metadata.id.raw refl),
      still_last first (recorded_in ts rs) (recorded_in ts rs) (own_latest ts rs parts.1),
    )

all_true : (P : Recorded → Bool) (rs : List Recorded) → list_all P rs ≡ true → AllByRecursion (λ r. P r ≡ true) rs
all_true P [] h = tt
all_true P (r ∷ rs) h = let parts = and_parts (P r) (list_all P rs) h in (parts.0, all_true P rs parts.1)

module _ (mask : ℕ) (s : State) (b : Block) (h : follows mask s b ≡ true) where
  abbrev more : List Recorded
  more = revisions_in b

  followed : AllByRecursion (λ (r : Recorded). revision_follows s b r ≡ true) more
  followed =
      let three = (and_parts _ (all_differ (document_ids b.revisions)) h).0 in
      all_true (revision_follows s b) more
      (and_parts (schema_follows s.tables s.indexes b.info.schema && ids_follow mask (made_ids s b) b.header.tx.raw)
      _ three).1

  differ : all_differ (document_ids b.revisions) ≡ true
  differ = (and_parts _ (all_differ (document_ids b.revisions)) h).1

  by_new : (id : ℕ) (table : TableId) (o : Option Recorded) → latest_of more id ≡ o → HasTable s id table
      → HasTable (after s b) id table
  by_new id table None e at = (
    at.0,
    latest_of_after s b id ∙ ap (λ o. or_else o (latest_of s.revisions id)) e ∙ at.1,
    at.2,
  )
  by_new id table (Some x) e at =
      let continued =
      (and_parts (is_of b.header x.revision && has_table s.tables (created_ids b.info.schema) x.table)
      (continues x (latest_of s.revisions (id_of x)))
      (latest_holds (λ (r : Recorded). revision_follows s b r ≡ true) more id x followed e)).1 in
      let there : latest_of s.revisions (id_of x) ≡ Some at.0 = ap (latest_of s.revisions) (latest_id id more x e)
      ∙ at.1 in
      let last : continues x (Some at.0) ≡ true = sym (ap (continues x) there) ∙ continued in
      let tables =
      (and_parts (x.table.raw == (at.0).table.raw) _ (and_parts _ (is_kept (at.0).revision.content) last).0).0 in (
        x,
        latest_of_after s b id ∙ ap (λ o. or_else o (latest_of s.revisions id)) e,
        eqb-true x.table.raw (at.0).table.raw tables ∙ at.2,
      )

  old_steady : (rs : List Recorded) → AllByRecursion (λ (r : Recorded). HasTable s (id_of r) r.table) rs
      → AllByRecursion (λ (r : Recorded). HasTable (after s b) (id_of r) r.table) rs
  old_steady [] all = tt
  old_steady (r ∷ rs) all = (by_new (id_of r) r.table (latest_of more (id_of r)) refl all.0, old_steady rs all.1)

  new_steady : (rs : List Recorded) → AllByRecursion (λ (x : Recorded). latest_of more (id_of x) ≡ Some x) rs
      → AllByRecursion (λ (r : Recorded). HasTable (after s b) (id_of r) r.table) rs
  new_steady [] all = tt
  new_steady (r ∷ rs) all = (
    (
      r,
      latest_of_after s b (id_of r)
          ∙ ap (λ o. or_else o (latest_of s.revisions (id_of r))) all.0,
      refl,
    ),
    new_steady rs all.1,
  )

  steady_after : Steady s → Steady (after s b)
  steady_after steady =
      all_joined (λ (r : Recorded). HasTable (after s b) (id_of r) r.table)
      (revisions_after b.info.schema s.revisions) more
      (each_after b.info.schema (λ (r : Recorded). HasTable (after s b) (id_of r) r.table) (λ c r h. h) s.revisions
      (old_steady s.revisions steady))
      (new_steady more (own_latest b.info.tables b.revisions differ))

pub steady_behind : (mask : ℕ) (s : State) (blocks : List Block) → AllFollow mask s blocks → Steady s
    → Steady (state_from s blocks)
steady_behind mask s [] h steady = steady
steady_behind mask s (b ∷ bs) h steady = steady_behind mask (after s b) bs h.1 (steady_after mask s b h.0 steady)

-- of items without keys it is the same
pub past_is : (name : List ℕ) (from to : Option Expr) (table : TableId) (items : List Item) (row : Row)
    → list_all no_key items ≡ true
    → shows_one (source.History name from to) table items row ≡ test name from to table items row
past_is name from to table [] row h = refl
past_is name from to table (i ∷ items) row h =
    let parts = and_parts (no_key i) (list_all no_key items) h in
    let met = meets table i (document_shown (source.History name from to) row) in
    ap (λ b. b && met || shows_one (source.History name from to) table items row) (sym parts.0)
    ∙ ap (λ b. no_key i && met || b) (past_is name from to table items row parts.1)
