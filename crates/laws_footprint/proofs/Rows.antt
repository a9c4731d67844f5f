-- Untouched items, the ids of rows, and the tables of names that aren't touched.
use Rattle.std.proofs.Common.{◌≡◌, ◌∙◌, ℕ, suc, ◌+◌, ◌^◌, Bool, true, false, not, cond, ◌==◌, nat_lt, List, [], ◌∷◌, ◌++◌, map, refl, sym, ap, subst, arith, slice_get, Option, Some, None, option_map}
use Rattle.std.specs.Prelude.{if◌then◌else◌}
use Rattle.std.specs.List.{AllByRecursion, cons_option, filter_map, find}
use Rattle.std.proofs.lemmas.Bool.{and_from, false≢true, not-true}
use Rattle.std.proofs.lemmas.List.{map-append}
use Rattle.ql_types.specs.declared.TableId.{TableId}
use Rattle.pql_model.specs.declared.statement.Source.{Source}
use Rattle.pql_model.specs.declared.statement.SourceKind.{SourceKind}
use Rattle.pql_model.specs.declared.statement.SourceKind.TheVariants as source
use Rattle.pql_model.specs.declared.tables.Row.{Row}
use Rattle.pql_model.specs.declared.tables.View.TheVariants as view
use Rattle.pql_model.specs.Tables.{is_committed, view_named}
use Rattle.ledger_model.specs.declared.block.Block.{Block}
use Rattle.ledger_model.specs.declared.block.Content.{Content}
use Rattle.ledger_model.specs.declared.block.Content.TheVariants.{Deleted, Kept, Redacted}
use Rattle.ledger_model.specs.declared.block.Draft.{Draft}
use Rattle.ledger_model.specs.declared.block.Schema.{Schema}
use Rattle.ledger_model.specs.declared.outcome.Item.{Item}
use Rattle.ledger_model.specs.declared.outcome.Item.TheVariants as item
use Rattle.ledger_model.specs.Footprints.{first_of, names_read}
use Rattle.ledger_model.specs.Meets.{data_in, document_shown, shows_metadata}
use Rattle.ledger_model.specs.Run.{Progress, table_now, tables_now}
use Rattle.ledger_model.specs.State.{Recorded, State, Table, after, draft_of, revisions_after, state_from}
use Rattle.ledger_model.specs.Statements.{table_in}
use Rattle.ledger_model.specs.Views.{latest_from, live, put, row_of}
use Rattle.laws_footprint.specs.Covered.{is_known, shows_own_id}
use Rattle.laws_footprint.specs.Own.{IdsFit}
use Rattle.laws_footprint.specs.Touches.{conflict_from, named_or, revisions_in, touched}
use Rattle.laws_footprint.proofs.Documents.{all_put}
use Rattle.laws_footprint.proofs.Schemas.{Untouched, active_is, called_still, same_changes}
use Rattle.laws_footprint.proofs.Still.{none_found, none_named}

-- ---- lists

pub all_left : {A : Type 0} (P : A → Type 0) (xs ys : List A) → AllByRecursion P (xs ++ ys) → AllByRecursion P xs
all_left P [] ys h = tt
all_left P (x ∷ xs) ys h = (h.0, all_left P xs ys h.1)

pub all_right : {A : Type 0} (P : A → Type 0) (xs ys : List A) → AllByRecursion P (xs ++ ys) → AllByRecursion P ys
all_right P [] ys h = h
all_right P (x ∷ xs) ys h = all_right P xs ys h.1

pub all_joined : {A : Type 0} (P : A → Type 0) (xs ys : List A) → AllByRecursion P xs → AllByRecursion P ys
    → AllByRecursion P (xs ++ ys)
all_joined P [] ys h k = k
all_joined P (x ∷ xs) ys h k = (h.0, all_joined P xs ys h.1 k)

-- ---- untouched items

one_block_more : (s : State) (b : Block) (bs : List Block) (items : List Item)
    → AllByRecursion (λ i. touched s b i ≡ false) items
    → AllByRecursion (Untouched (after s b) bs) items → AllByRecursion (Untouched s (b ∷ bs)) items
one_block_more s b bs [] h k = tt
one_block_more s b bs (i ∷ items) h k = ((h.0, k.0), one_block_more s b bs items h.1 k.1)

no_blocks : (s : State) (items : List Item) → AllByRecursion (Untouched s []) items
no_blocks s [] = tt
no_blocks s (i ∷ items) = (tt, no_blocks s items)

pub all_untouched : (m : ℕ) (s : State) (later : List Block) (items : List Item) → conflict_from m s later items ≡ None
    → AllByRecursion (Untouched s later) items
all_untouched m s [] items none = no_blocks s items
all_untouched m s (b ∷ bs) items none =
    let parts = none_named m (find (touched s b) items) (conflict_from (m + 1) (after s b) bs items) none in
    one_block_more s b bs items (none_found (touched s b) items parts.0)
    (all_untouched (m + 1) (after s b) bs items parts.1)

first_touched : (s : State) (b : Block) (bs : List Block) (items : List Item)
    → AllByRecursion (Untouched s (b ∷ bs)) items → find (touched s b) items ≡ None
first_touched s b bs [] h = refl
first_touched s b bs (i ∷ items) h =
    ap (λ v. cond v (Some i) (find (touched s b) items)) h.0.0 ∙ first_touched s b bs items h.1

later_untouched : (s : State) (b : Block) (bs : List Block) (items : List Item)
    → AllByRecursion (Untouched s (b ∷ bs)) items → AllByRecursion (Untouched (after s b) bs) items
later_untouched s b bs [] h = tt
later_untouched s b bs (i ∷ items) h = (h.0.1, later_untouched s b bs items h.1)

pub no_conflict : (m : ℕ) (s : State) (later : List Block) (items : List Item)
    → AllByRecursion (Untouched s later) items → conflict_from m s later items ≡ None
no_conflict m s [] items h = refl
no_conflict m s (b ∷ bs) items h =
    ap (λ o. named_or m o (conflict_from (m + 1) (after s b) bs items)) (first_touched s b bs items h)
    ∙ no_conflict (m + 1) (after s b) bs items (later_untouched s b bs items h)

-- ---- the ids of rows

row_fits : (table : TableId) (d : Draft) (content : Content) (b : Bool) (rows : List Row)
    → nat_lt d.id.raw (2 ^ 128) ≡ true
    → AllByRecursion (λ (r : Row). nat_lt r.id.raw (2 ^ 128) ≡ true) rows
    → AllByRecursion (λ (r : Row). nat_lt r.id.raw (2 ^ 128) ≡ true)
    (cons_option (cond b (live d.id content) None) rows)
row_fits table d content false rows h all = all
row_fits table d Deleted true rows h all = all
row_fits table d (Redacted hash) true rows h all = all
row_fits table d (Kept v) true rows h all = (h, all)

pub rows_fit : (table : TableId) (docs : List Draft) → IdsFit docs
    → AllByRecursion (λ (r : Row). nat_lt r.id.raw (2 ^ 128) ≡ true) (filter_map (row_of table) docs)
rows_fit table [] h = tt
rows_fit table (d ∷ ds) h =
    row_fits table d d.content (d.table.raw == table.raw) (filter_map (row_of table) ds) h.0 (rows_fit table ds h.1)

pub latest_fit : (docs ds : List Draft) → IdsFit docs → IdsFit ds → IdsFit (latest_from docs ds)
latest_fit docs [] h k = h
latest_fit docs (d ∷ ds) h k =
    latest_fit (put docs d) ds (all_put (λ x. nat_lt x.id.raw (2 ^ 128) ≡ true) docs d h k.0) k.1

pub user_named : (name : List ℕ) → is_committed name ≡ false → view_named name ≡ view.User
user_named name plain = ap (λ b. if b then view.Committed else view.User) plain

-- the user view of a table, or a path
abbrev pub is_plain : SourceKind → Bool
is_plain (source.Table name) = not (is_committed name)
is_plain (source.History table start end) = false
is_plain (source.Path path) = true

plain_shows : (kind : SourceKind) → is_plain kind ≡ true → shows_metadata kind ≡ false
plain_shows (source.Table name) plain = not-true (is_committed name) plain
plain_shows (source.History table start end) plain = absurd (false≢true plain)
plain_shows (source.Path path) plain = refl

pub user_shown : (kind : SourceKind) (row : Row) → is_plain kind ≡ true → document_shown kind row ≡ row
user_shown kind row plain =
    ap (λ b. record { id = row.id; value = if b then data_in row.value else row.value }) (plain_shows kind plain)

pub known_user : (kind : SourceKind) (row : Row) → is_plain kind ≡ true → nat_lt row.id.raw (2 ^ 128) ≡ true
    → is_known kind row ≡ true
known_user kind row plain fits =
    and_from (nat_lt row.id.raw (2 ^ 128)) (if shows_metadata kind then shows_own_id row else true) fits
    (ap (λ b. if b then shows_own_id row else true) (plain_shows kind plain))

pub here_at : (sources : List Source) (n : ℕ) (x : Source) (xs : List Source)
    → ((k : ℕ) → slice_get sources (n + k) ≡ slice_get (x ∷ xs) k) → slice_get sources n ≡ Some x
here_at sources n x xs at = let here : n + 0 ≡ n = omega arith in subst (λ i. slice_get sources i ≡ Some x) here (at 0)

pub next_at : (sources : List Source) (n : ℕ) (x : Source) (xs : List Source)
    → ((k : ℕ) → slice_get sources (n + k) ≡ slice_get (x ∷ xs) k)
    → (k : ℕ) → slice_get sources (n + 1 + k) ≡ slice_get xs k
next_at sources n x xs at k = let there : n + 1 + k ≡ n + suc k = omega arith in ap (slice_get sources) there
    ∙ at (suc k)

fits_unredacted : (changes : List Schema) (rs : List Recorded) → IdsFit (map draft_of (revisions_after changes rs))
    → IdsFit (map draft_of rs)
fits_unredacted changes [] h = tt
fits_unredacted changes (r ∷ rs) h = (h.0, fits_unredacted changes rs h.1)

pub fits_redacted : (changes : List Schema) (rs : List Recorded) → IdsFit (map draft_of rs)
    → IdsFit (map draft_of (revisions_after changes rs))
fits_redacted changes [] h = tt
fits_redacted changes (r ∷ rs) h = (h.0, fits_redacted changes rs h.1)

pub fits_before : (s : State) (later : List Block) → IdsFit (map draft_of (state_from s later).revisions)
    → IdsFit (map draft_of s.revisions)
fits_before s [] h = h
fits_before s (b ∷ bs) h =
    let before = revisions_after b.info.schema s.revisions in
    fits_unredacted b.info.schema s.revisions
    (all_left _ (map draft_of before) (map draft_of (revisions_in b))
    (subst IdsFit (map-append draft_of before (revisions_in b)) (fits_before (after s b) bs h)))

-- ---- tables

pub table_same : (s : State) (later : List Block) (p : Progress) (name : List ℕ)
    → Untouched s later (item.TableName name)
    → table_now (state_from s later) p name ≡ table_now s p name
table_same s later p name un =
    active_is (tables_now (state_from s later) p) name
    ∙ ap (λ ts. option_map (λ (x : Table). x.id) (first_of ts))
    (same_changes name (state_from s later).tables s.tables p.schema (called_still name s later un))
    ∙ sym (active_is (tables_now s p) name)

-- the name of a source's table isn't touched
abbrev pub Named : State → List Block → Option (List ℕ) → Type 0
Named s later None = Unit {0}
Named s later (Some name) = Untouched s later (item.TableName name)

pub first_name : (s : State) (later : List Block) (o : Option (List ℕ)) (rest : List Item)
    → AllByRecursion (Untouched s later) (cons_option (option_map item.TableName o) rest)
    → Named s later o × AllByRecursion (Untouched s later) rest
first_name s later None rest h = (tt, h)
first_name s later (Some name) rest h = (h.0, h.1)

pub all_named : (s : State) (later : List Block) (ss : List Source)
    → AllByRecursion (Untouched s later) (names_read ss)
    → AllByRecursion (λ (x : Source). Named s later (table_in x.from)) ss
all_named s later [] h = tt
all_named s later (x ∷ xs) h =
    let parts = first_name s later (table_in x.from) (names_read xs) h in
    (parts.0, all_named s later xs parts.1)
