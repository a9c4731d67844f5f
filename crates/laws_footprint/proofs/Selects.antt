-- The frame of what a FROM reads, and of SELECT.
use Rattle.std.proofs.Common.{◌≡◌, ◌∙◌, ℕ, ◌+◌, Bool, true, false, List, [], ◌∷◌, ◌++◌, length, map, refl, sym, ap, Option, Some, None, Ok}
use Rattle.std.specs.Prelude.{◌==◌, is_some, option_and_then, option_map, if◌then◌else◌}
use Rattle.std.specs.List.{AllByRecursion, cons_option, filter, filter_map, flat_map, list_all, list_any}
use Rattle.std.specs.Option.{option_map_or}
use Rattle.std.proofs.lemmas.List.Elements.{filter_agree}
use Rattle.ion_values.specs.declared.value.Value.{Value}
use Rattle.ql_types.specs.declared.DocId.{DocId}
use Rattle.ql_types.specs.declared.TableId.{TableId}
use Rattle.pql_model.specs.declared.expr.Expr.{Expr}
use Rattle.pql_model.specs.declared.statement.FromClause.{FromClause}
use Rattle.pql_model.specs.declared.statement.Select.{Select}
use Rattle.pql_model.specs.declared.statement.Source.{Source}
use Rattle.pql_model.specs.declared.statement.SourceKind.{SourceKind}
use Rattle.pql_model.specs.declared.statement.SourceKind.TheVariants as source
use Rattle.pql_model.specs.declared.tables.Row.{Row}
use Rattle.pql_model.specs.Answers.{answered}
use Rattle.pql_model.specs.From.{rows_given, rows_of, rows_over}
use Rattle.ledger_model.specs.declared.block.Block.{Block}
use Rattle.ledger_model.specs.declared.outcome.Item.{Item}
use Rattle.ledger_model.specs.declared.outcome.Item.TheVariants as item
use Rattle.ledger_model.specs.declared.outcome.Refusal.TheVariants.{NoSuchTable}
use Rattle.ledger_model.specs.Conditions.{Asked, Meant, Wanted, all_asked, at_names, equal_to, id_of, one_of, parts_of, same_as, unknown}
use Rattle.ledger_model.specs.Footprints.{Read, Schemas, Spot, all_read, are_few, by_id, by_key, choices, document_equal, document_in, document_one_of, document_same, documents_of, each_once, field_at, first_of, if_few, if_indexed, items_at, key_equal, key_one_of, key_same, names_read, read_by_sources, read_of, read_with, same_document, sources_read, table_of, values_meant}
use Rattle.ledger_model.specs.Run.{Progress, absent_table, first_absent, or_else, schemas_now, selected, table_now, unless, views_of}
use Rattle.ledger_model.specs.State.{State, active_table, draft_of, state_from}
use Rattle.ledger_model.specs.Statements.{table_in}
use Rattle.laws_footprint.specs.Covered.{AllFitKind, fits_kind, is_known, is_read_by, no_key, reads_by, rows_by_source}
use Rattle.laws_footprint.specs.Own.{IdsFit}
use Rattle.laws_footprint.specs.Framed.{indexes_of}
use Rattle.laws_footprint.specs.Restriction.{Covers, rows_read}
use Rattle.laws_footprint.specs.Stillness.{Apart}
use Rattle.laws_footprint.specs.Touches.{conflict_from}
use Rattle.laws_footprint.proofs.Covering.{footprint_restricts, test_at}
use Rattle.laws_footprint.proofs.Listed.{From, all_found, first_holds, here_of, next_of}
use Rattle.laws_footprint.proofs.Restricts.{frame_of_rows}
use Rattle.laws_footprint.proofs.Rows.{Named, all_joined, all_left, all_named, all_right, all_untouched, fits_before, no_conflict, table_same}
use Rattle.laws_footprint.proofs.Sources.{all_known, kind_same}
use Rattle.laws_footprint.proofs.Schemas.{Untouched, has_index_is, is_on}

-- ---- lists

filter_map-same : {A B : Type 0} (f g : A → Option B) (xs : List A) → ((x : A) → f x ≡ g x)
    → filter_map f xs ≡ filter_map g xs
filter_map-same f g [] h = refl
filter_map-same f g (x ∷ xs) h = ap (λ o. cons_option o (filter_map f xs)) (h x)
    ∙ ap (cons_option (g x)) (filter_map-same f g xs h)

-- ---- the items of a history name no key

abbrev Keyless : List Item → Type 0
Keyless items = list_all no_key items ≡ true

documents_keyless : (table : TableId) (ids : List DocId) → Keyless (map (item.Doc table) ids)
documents_keyless table [] = refl
documents_keyless table (id ∷ ids) = documents_keyless table ids

abbrev IfKeyless : Option (List Item) → Type 0
IfKeyless None = Unit {0}
IfKeyless (Some items) = Keyless items

keyless_is : (o : Option (List Item)) (items : List Item) → IfKeyless o → o ≡ Some items → Keyless items
keyless_is None items h e = cc
keyless_is (Some found) items h e = let same : found ≡ items = cc e in ap (list_all no_key) (sym same) ∙ h

if_keyless : (b : Bool) (items : List Item) → Keyless items → IfKeyless (if b then Some items else None)
if_keyless true items h = h
if_keyless false items h = tt

one_document : (table : TableId) (o : Option DocId) → IfKeyless (option_map (λ id. item.Doc table id ∷ []) o)
one_document table None = tt
one_document table (Some id) = refl

equal_keyless : (table : TableId) (x : Wanted) → IfKeyless (document_equal table x)
equal_keyless table (equal_to v) = one_document table (document_in v)
equal_keyless table (one_of values) = tt
equal_keyless table (same_as m) = tt

listed_keyless : (table : TableId) (x : Wanted) → IfKeyless (document_one_of table x)
listed_keyless table (equal_to v) = tt
listed_keyless table (one_of values) =
    if_keyless (are_few values) (documents_of table values)
    (documents_keyless table (each_once same_document (filter_map document_in values)))
listed_keyless table (same_as m) = tt

among_keyless : (table : TableId) (o : Option (List Value))
    → IfKeyless (option_and_then (λ values. if_few (documents_of table values)) o)
among_keyless table None = tt
among_keyless table (Some values) =
    if_keyless (are_few (documents_of table values)) (documents_of table values)
    (documents_keyless table (each_once same_document (filter_map document_in values)))

joined_keyless : (table : TableId) (earlier : List Read) (x : Wanted) → IfKeyless (document_same table earlier x)
joined_keyless table earlier (equal_to v) = tt
joined_keyless table earlier (one_of values) = tt
joined_keyless table earlier (same_as m) = among_keyless table (values_meant earlier m)

all_anything : {A : Type 0} (xs : List A) → AllByRecursion (λ (x : A). Unit {0}) xs
all_anything [] = tt
all_anything (x ∷ xs) = (tt, all_anything xs)

if_asked : (b : Bool) (o : Option (List Item)) → IfKeyless o → IfKeyless (if b then o else None)
if_asked true o h = h
if_asked false o h = tt

abbrev no_name : Option (List ℕ)
no_name = None

either_none : (b : Bool) → (if b then no_name else no_name) ≡ no_name
either_none true = refl
either_none false = refl

module _ (now : Schemas) (name : List ℕ) (start end : Option Expr) where
  abbrev past : SourceKind
  past = source.History name start end

  no_field : (n : ℕ) (m : Meant) → field_at n past m ≡ None
  no_field n (id_of place) = refl
  no_field n unknown = refl
  no_field n (at_names place fields) = either_none (place == n)

  by_id_keyless : (rule : Wanted → Option (List Item)) (at : Spot) (asked : List Asked)
      → ((x : Wanted) → IfKeyless (rule x)) → AllByRecursion Keyless (filter_map (by_id rule at) asked)
  by_id_keyless rule at asked each =
      all_found (λ (a : Asked). Unit {0}) Keyless (by_id rule at) asked (all_anything asked) (λ a t items e.
      keyless_is (by_id rule at a) items (if_asked _ (rule a.wanted) (each a.wanted)) e)

  by_key_keyless : (rule : List ℕ → Wanted → Option (List Item)) (at : Spot) (asked : List Asked) → at.kind ≡ past
      → AllByRecursion Keyless (filter_map (by_key rule now at) asked)
  by_key_keyless rule at asked is =
      all_found (λ (a : Asked). Unit {0}) Keyless (by_key rule now at) asked (all_anything asked) (λ a t items e.
      let none : by_key rule now at a ≡ None =
      ap (λ k. if_indexed rule now at.table a.wanted (field_at at.place k a.of)) is
      ∙ ap (if_indexed rule now at.table a.wanted) (no_field at.place a.of) in
      keyless_is None items tt (sym none ∙ e))

  all_keyless : (at : Spot) (asked : List Asked) → at.kind ≡ past → AllByRecursion Keyless (choices now at asked)
  all_keyless at asked is =
      all_joined Keyless _ (filter_map (by_key (λ field. key_same at.table field at.earlier) now at) asked)
      (all_joined Keyless _ (filter_map (by_key (key_one_of at.table) now at) asked)
      (all_joined Keyless _ (filter_map (by_key (key_equal at.table) now at) asked)
      (all_joined Keyless _ (filter_map (by_id (document_same at.table at.earlier) at) asked)
      (all_joined Keyless (filter_map (by_id (document_equal at.table) at) asked)
      (filter_map (by_id (document_one_of at.table) at) asked)
      (by_id_keyless (document_equal at.table) at asked (equal_keyless at.table))
      (by_id_keyless (document_one_of at.table) at asked (listed_keyless at.table)))
      (by_id_keyless (document_same at.table at.earlier) at asked (joined_keyless at.table at.earlier)))
      (by_key_keyless (key_equal at.table) at asked is))
      (by_key_keyless (key_one_of at.table) at asked is))
      (by_key_keyless (λ field. key_same at.table field at.earlier) at asked is)

  first_keyless : (at : Spot) (asked : List Asked) (o : Option (List Item)) → first_of (choices now at asked) ≡ o
      → AllByRecursion Keyless (choices now at asked)
      → Keyless (option_map_or (λ items. items) o (item.Table at.table ∷ []))
  first_keyless at asked None e all = refl
  first_keyless at asked (Some items) e all = first_holds Keyless (choices now at asked) items all e

  past_fits : (asked : List Asked) (earlier : List Read) (o : Option TableId)
      → fits_kind past (items_at now asked earlier past o) ≡ true
  past_fits asked earlier None = refl
  past_fits asked earlier (Some table) =
      let at : Spot = record { place = length earlier; kind = past; table = table; earlier = earlier } in
      first_keyless at asked (first_of (choices now at asked)) refl (all_keyless at asked refl)

pub own_fits : (now : Schemas) (asked : List Asked) (earlier : List Read) (kind : SourceKind) (o : Option TableId)
    → fits_kind kind (items_at now asked earlier kind o) ≡ true
own_fits now asked earlier (source.Table name) o = refl
own_fits now asked earlier (source.Path path) o = refl
own_fits now asked earlier (source.History name start end) o = past_fits now name start end asked earlier o

-- ---- the frame

module _ (m : ℕ) (s : State) (later : List Block) (p : Progress) (params : List Value) (from : FromClause) where
  abbrev now : State
  now = state_from s later

  abbrev schemas : Schemas
  schemas = schemas_now s p

  abbrev items : List Item
  items = read_by_sources schemas (views_of s p) params from

  -- ---- refusals

  absent_same : (o : Option (List ℕ)) → Named s later o → absent_table now p o ≡ absent_table s p o
  absent_same None un = refl
  absent_same (Some name) un =
      ap (λ o. if is_some o then None else Some (NoSuchTable name)) (table_same s later p name un)

  pub first_absent_same : (ss : List Source) → AllByRecursion (λ (x : Source). Named s later (table_in x.from)) ss
      → first_absent now p ss ≡ first_absent s p ss
  first_absent_same [] h = refl
  first_absent_same (x ∷ xs) h =
      ap (λ o. or_else o (first_absent now p xs)) (absent_same (table_in x.from) h.0)
      ∙ ap (or_else (absent_table s p (table_in x.from))) (first_absent_same xs h.1)

  -- ---- the items of a source

  -- an index of a table is there at both states
  abbrev pub SameIndexes : TableId → Type 0
  SameIndexes table = indexes_of table (schemas_now now p).indexes ≡ indexes_of table schemas.indexes

  indexed_same : (rule : List ℕ → Wanted → Option (List Item)) (table : TableId) (wanted : Wanted)
      (o : Option (List ℕ)) → SameIndexes table
      → if_indexed rule (schemas_now now p) table wanted o ≡ if_indexed rule schemas table wanted o
  indexed_same rule table wanted None same = refl
  indexed_same rule table wanted (Some f) same =
      ap (λ b. if b then rule f wanted else None)
      (has_index_is (schemas_now now p).indexes table f ∙ ap (list_any (is_on f)) same
      ∙ sym (has_index_is schemas.indexes table f))

  by_key_same : (rule : List ℕ → Wanted → Option (List Item)) (at : Spot) (asked : List Asked)
      → SameIndexes at.table
      → filter_map (by_key rule (schemas_now now p) at) asked ≡ filter_map (by_key rule schemas at) asked
  by_key_same rule at asked same =
      filter_map-same (by_key rule (schemas_now now p) at) (by_key rule schemas at) asked
      (λ a. indexed_same rule at.table a.wanted (field_at at.place at.kind a.of) same)

  choices_same : (at : Spot) (asked : List Asked) → SameIndexes at.table
      → choices (schemas_now now p) at asked ≡ choices schemas at asked
  choices_same at asked same =
      let one = filter_map (by_id (document_equal at.table) at) asked in
      let two = filter_map (by_id (document_one_of at.table) at) asked in
      let three = filter_map (by_id (document_same at.table at.earlier) at) asked in
      let five = filter_map (by_key (key_one_of at.table) (schemas_now now p) at) asked in
      let six =
      filter_map (by_key (λ field. key_same at.table field at.earlier) (schemas_now now p) at) asked in
      ap (λ xs. one ++ two ++ three ++ xs ++ five ++ six) (by_key_same (key_equal at.table) at asked same)
      ∙ ap (λ xs. one ++ two ++ three ++ filter_map (by_key (key_equal at.table) schemas at) asked ++ xs ++ six)
      (by_key_same (key_one_of at.table) at asked same)
      ∙ ap (λ xs. one ++ two ++ three ++ filter_map (by_key (key_equal at.table) schemas at) asked
      ++ filter_map (by_key (key_one_of at.table) schemas at) asked ++ xs)
      (by_key_same (λ field. key_same at.table field at.earlier) at asked same)

  items_same : (asked : List Asked) (earlier : List Read) (kind : SourceKind) (o : Option TableId)
      → ((table : TableId) → o ≡ Some table → SameIndexes table)
      → items_at (schemas_now now p) asked earlier kind o ≡ items_at schemas asked earlier kind o
  items_same asked earlier kind None same = refl
  items_same asked earlier kind (Some table) same =
      ap (λ cs. option_map_or (λ is. is) (first_of cs) (item.Table table ∷ []))
      (choices_same (record { place = length earlier; kind = kind; table = table; earlier = earlier }) asked
      (same table refl))

  -- so it is for each table of an untouched name
  abbrev pub AllSame : Type 0
  AllSame = (name : List ℕ) (table : TableId) → Untouched s later (item.TableName name)
      → table_now s p name ≡ Some table → SameIndexes table

  -- ---- its table

  table_by : (o : Option (List ℕ)) → Named s later o
      → option_and_then (active_table (schemas_now now p).tables) o ≡ option_and_then (active_table schemas.tables) o
  table_by None un = refl
  table_by (Some name) un = table_same s later p name un

  indexes_by : (o : Option (List ℕ)) → AllSame → Named s later o → (table : TableId)
      → option_and_then (active_table schemas.tables) o ≡ Some table → SameIndexes table
  indexes_by None each un table is = cc
  indexes_by (Some name) each un table is = each name table un is

  -- ---- what is read, source by source

  abbrev read_before : List Asked → List Read → SourceKind → Read
  read_before asked = read_of schemas (views_of s p) params asked

  abbrev read_now : List Asked → List Read → SourceKind → Read
  read_now asked = read_of (schemas_now now p) (views_of now p) params asked

  module _ (each : AllSame) (apart : Apart later p.log) (asked : List Asked) where
    one_same : (earlier : List Read) (kind : SourceKind) → Named s later (table_in kind)
        → AllByRecursion (Untouched s later) (items_at schemas asked earlier kind (table_of schemas kind))
        → read_now asked earlier kind ≡ read_before asked earlier kind
    one_same earlier kind un still =
        let table = table_of schemas kind in
        let own = items_at schemas asked earlier kind table in
        ap (λ o. read_with (views_of now p) params kind o (items_at (schemas_now now p) asked earlier kind o))
        (table_by (table_in kind) un)
        ∙ ap (read_with (views_of now p) params kind table)
        (items_same asked earlier kind table (indexes_by (table_in kind) each un))
        ∙ ap (λ rows. record { kind = kind; items = own; rows = rows })
        (kind_same m s later p params own (no_conflict m s later own still) apart kind
        (own_fits schemas asked earlier kind table) un)

    all_same : (earlier : List Read) (ss : List Source)
        → AllByRecursion (λ (x : Source). Named s later (table_in x.from)) ss
        → AllByRecursion (Untouched s later) (flat_map (λ (r : Read). r.items)
        (all_read (read_before asked) earlier ss))
        → all_read (read_now asked) earlier ss ≡ all_read (read_before asked) earlier ss
    all_same earlier [] un still = refl
    all_same earlier (x ∷ xs) un still =
        let r = read_before asked earlier x.from in
        let rest = flat_map (λ (q : Read). q.items) (all_read (read_before asked) (earlier ++ r ∷ []) xs) in
        ap (λ q. q ∷ all_read (read_now asked) (earlier ++ q ∷ []) xs)
        (one_same earlier x.from un.0 (all_left (Untouched s later) r.items rest still))
        ∙ ap (λ rs. r ∷ rs)
        (all_same (earlier ++ r ∷ []) xs un.1 (all_right (Untouched s later) r.items rest still))

  -- ---- the rows of FROM

  module _ (none : conflict_from m s later items ≡ None) (apart : Apart later p.log) where
    untouched : AllByRecursion (Untouched s later) items
    untouched = all_untouched m s later items none

    abbrev own_items : List Item
    own_items = flat_map (λ (r : Read). r.items) (sources_read schemas (views_of s p) params from)

    pub names_untouched : AllByRecursion (λ (x : Source). Named s later (table_in x.from)) from.sources
    names_untouched =
        all_named s later from.sources (all_left (Untouched s later) (names_read from.sources) own_items untouched)

    pub sources_same : AllSame
        → sources_read (schemas_now now p) (views_of now p) params from
        ≡ sources_read schemas (views_of s p) params from
    sources_same each =
        all_same each apart (all_asked from.sources (parts_of params from)) [] from.sources names_untouched
        (all_right (Untouched s later) (names_read from.sources) own_items untouched)

    pub rows_framed : AllSame → IdsFit (map draft_of now.revisions) → IdsFit p.log
        → rows_of (views_of now p) params from ≡ rows_of (views_of s p) params from
    rows_framed each fit log_fits =
        footprint_restricts (schemas_now now p) (views_of now p) params from
        (all_known now p fit log_fits params from.sources)
        ∙ ap (λ rs. rows_over params from (rows_by_source rs)) (sources_same each)
        ∙ sym (footprint_restricts schemas (views_of s p) params from
        (all_known s p (fits_before s later fit) log_fits params from.sources))

    pub select_framed : (select : Select) → AllSame → IdsFit (map draft_of now.revisions) → IdsFit p.log
        → selected now p params select from ≡ selected s p params select from
    select_framed select each fit log_fits =
        ap (λ o. unless o (Ok (record {
          rows = answered params (rows_of (views_of now p) params from) select;
          schema =
              [];
          log = [];
          made = 0;
          footprint = [];
        })))
        (first_absent_same from.sources names_untouched)
        ∙ ap (λ rows. unless (first_absent s p from.sources)
        (Ok (record { rows = answered params rows select; schema = []; log = []; made = 0; footprint = [] })))
        (rows_framed each fit log_fits)

  -- ---- by any items of the sources that cover the conditions

  module _ (own : List (List Item)) (apart : Apart later p.log) where
    covered_same : (n : ℕ) (ss : List Source) (rest : List (List Item)) → AllFitKind ss rest → From from.sources n ss
        → From own n rest → AllByRecursion (Untouched s later) (flat_map (λ is. is) rest)
        → AllByRecursion (λ (x : Source). Named s later (table_in x.from)) ss
        → rows_read (views_of now p) params (reads_by schemas from.sources own) n ss
        ≡ rows_read (views_of s p) params (reads_by schemas from.sources own) n ss
    covered_same n [] [] fits at is still un = refl
    covered_same n [] (is ∷ more) fits at own_at still un = absurd fits
    covered_same n (x ∷ xs) [] fits at is still un = absurd fits
    covered_same n (x ∷ xs) (is ∷ more) fits at own_at still un =
        let test = reads_by schemas from.sources own n in
        let alike : (row : Row) → test row ≡ is_read_by schemas x.from is row =
        λ row. test_at schemas from.sources own n x is row (here_of from.sources n x xs at)
        (here_of own n is more own_at) in
        let same : filter test (rows_given (views_of now p) params x.from)
        ≡ filter test (rows_given (views_of s p) params x.from) =
        filter_agree test (is_read_by schemas x.from is) alike (rows_given (views_of now p) params x.from)
        ∙ kind_same m s later p params is
        (no_conflict m s later is (all_left (Untouched s later) is (flat_map (λ js. js) more) still)) apart x.from
        fits.0 un.0
        ∙ sym (filter_agree test (is_read_by schemas x.from is) alike (rows_given (views_of s p) params x.from)) in
        ap (λ rows. rows ∷ rows_read (views_of now p) params (reads_by schemas from.sources own) (n + 1) xs) same
        ∙ ap (λ all. filter test (rows_given (views_of s p) params x.from) ∷ all)
        (covered_same (n + 1) xs more fits.1 (next_of from.sources n x xs at) (next_of own n is more own_at)
        (all_right (Untouched s later) is (flat_map (λ js. js) more) still) un.1)

    pub covered_framed : AllFitKind from.sources own
        → Covers (views_of s p) params from is_known (reads_by schemas from.sources own)
        → Covers (views_of now p) params from is_known (reads_by schemas from.sources own)
        → From from.sources 0 from.sources → From own 0 own
        → AllByRecursion (Untouched s later) (flat_map (λ is. is) own)
        → AllByRecursion (λ (x : Source). Named s later (table_in x.from)) from.sources
        → IdsFit (map draft_of now.revisions) → IdsFit p.log
        → rows_of (views_of now p) params from ≡ rows_of (views_of s p) params from
    covered_framed fits before behind at own_at still un fit log_fits =
        frame_of_rows (views_of now p) (views_of s p) params from is_known (reads_by schemas from.sources own)
        (all_known now p fit log_fits params from.sources)
        (all_known s p (fits_before s later fit) log_fits params from.sources) behind before
        (covered_same 0 from.sources own fits at own_at still un)
