-- What a statement's footprint reads of the rows of its sources, and that this is enough of them.
use Rattle.std.specs.Prelude.{◌≡◌, ℕ, ◌^◌, ◌&&◌, Bool, true, false, nat_lt, List, [], ◌∷◌, codes, map, slice_get, Option, Some, option_and_then, if◌then◌else◌}
use Rattle.std.specs.List.{list_all}
use Rattle.std.specs.Option.{option_map_or}
use Rattle.std.specs.Str.{bytes_eq}
use Rattle.ion_values.specs.declared.value.Value.{Value}
use Rattle.ql_types.specs.Ids.{id_text}
use Rattle.pql_model.specs.declared.statement.FromClause.{FromClause}
use Rattle.pql_model.specs.declared.statement.Source.{Source}
use Rattle.pql_model.specs.declared.statement.SourceKind.{SourceKind}
use Rattle.pql_model.specs.declared.statement.SourceKind.TheVariants as source
use Rattle.pql_model.specs.declared.tables.Row.{Row}
use Rattle.pql_model.specs.From.{Viewed, rows_of, rows_over}
use Rattle.pql_model.specs.Steps.{field_of}
use Rattle.pql_model.specs.Texts.{text_of}
use Rattle.ledger_model.specs.declared.outcome.Item.{Item}
use Rattle.ledger_model.specs.declared.outcome.Item.TheVariants as item
use Rattle.ledger_model.specs.Footprints.{Read, Schemas, is_read, sources_read, table_of}
use Rattle.ledger_model.specs.Meets.{shows_metadata}
use Rattle.laws_footprint.specs.Restriction.{AllKnown, Covers, Reads}

-- ---- which rows are read, by the items of each source

abbrev pub is_read_by : Schemas → SourceKind → List Item → Row → Bool
is_read_by now kind items row = is_read (table_of now kind) kind items row

abbrev pub is_read_at : Schemas → Option Source → Option (List Item) → Row → Bool
is_read_at now (Some s) (Some items) row = is_read_by now s.from items row
is_read_at now _ _ row = true

abbrev pub reads_by : Schemas → List Source → List (List Item) → Reads
reads_by now sources own n row = is_read_at now (slice_get sources n) (slice_get own n) row

-- the items of each source
abbrev pub items_by_source : List Read → List (List Item)
items_by_source reads = map (λ (r : Read). r.items) reads

abbrev pub rows_by_source : List Read → List (List Row)
rows_by_source reads = map (λ (r : Read). r.rows) reads

-- history is read by no key
abbrev pub no_key : Item → Bool
no_key (item.IndexValue table field k) = false
no_key _ = true

abbrev pub fits_kind : SourceKind → List Item → Bool
fits_kind (source.History table start end) items = list_all no_key items
fits_kind _ items = true

-- each source has items, which fit it
abbrev pub AllFitKind : List Source → List (List Item) → Type 0
AllFitKind [] [] = Unit {0}
AllFitKind (s ∷ ss) (items ∷ more) = (fits_kind s.from items ≡ true) × AllFitKind ss more
AllFitKind [] (items ∷ more) = ⊥
AllFitKind (s ∷ ss) [] = ⊥

-- ---- what is known of rows

-- the text of the id in its metadata
abbrev pub id_shown : Value → Option (List ℕ)
id_shown v = option_and_then text_of (option_and_then (field_of (codes "id")) (field_of (codes "metadata") v))

-- it is that of the row's own id
abbrev pub shows_own_id : Row → Bool
shows_own_id row = option_map_or (λ t. bytes_eq t (id_text row.id.raw)) (id_shown row.value) false

-- the number of its id fits 128 bits
abbrev pub is_known : SourceKind → Row → Bool
is_known kind row = nat_lt row.id.raw (2 ^ 128) && (if shows_metadata kind then shows_own_id row else true)

-- a row that meets no item of its source stands, behind rows that are read, only in combinations on which the
-- conditions aren't true
abbrev pub FootprintCovers : Type 0
FootprintCovers =
    (now : Schemas) (views : Viewed) (params : List Value) (from : FromClause)
    → Covers views params from is_known
    (reads_by now from.sources (items_by_source (sources_read now views params from)))

-- so FROM keeps the same rows over those that are read of each source
abbrev pub FootprintRestricts : Type 0
FootprintRestricts =
    (now : Schemas) (views : Viewed) (params : List Value) (from : FromClause)
    → AllKnown views params is_known from.sources
    → rows_of views params from ≡ rows_over params from (rows_by_source (sources_read now views params from))

-- a view of the latest revisions, or a path
abbrev pub is_no_history : SourceKind → Bool
is_no_history (source.Table name) = true
is_no_history (source.History table start end) = false
is_no_history (source.Path path) = true
