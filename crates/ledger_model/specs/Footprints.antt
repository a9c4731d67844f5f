-- What a statement reads (the ledger's own rule): names of tables, and of each table that it selects from documents,
-- keys of an index, or the whole table. Later blocks that touch any of it are in conflict with the transaction. The
-- sources are gone through from the left, since what is read of one may depend on the rows that are read of another
-- before it.
use Rattle.std.specs.Prelude.{ℕ, ◌==◌, ◌&&◌, not, Bool, true, false, nat_le, List, [], ◌∷◌, ◌++◌, codes, length, map, slice_get, Option, Some, None, option_map, option_and_then, if◌then◌else◌}
use Rattle.std.specs.List.{filter, filter_map, flat_map, list_any}
use Rattle.std.specs.Option.{option_map_or}
use Rattle.std.specs.Str.{bytes_eq}
use Rattle.ion_order.specs.Key.{key_of}
use Rattle.ion_values.specs.declared.value.Value.{Value}
use Rattle.ion_values.specs.Keys.{is_same_key}
use Rattle.ql_types.specs.Ids.{id_in}
use Rattle.ql_types.specs.declared.DocId.{DocId}
use Rattle.ql_types.specs.declared.TableId.{TableId}
use Rattle.pql_model.specs.declared.statement.FromClause.{FromClause}
use Rattle.pql_model.specs.declared.statement.Source.{Source}
use Rattle.pql_model.specs.declared.statement.SourceKind.{SourceKind}
use Rattle.pql_model.specs.declared.statement.SourceKind.TheVariants as source
use Rattle.pql_model.specs.declared.statement.Statement.{Statement}
use Rattle.pql_model.specs.declared.statement.Statement.TheVariants as statement
use Rattle.pql_model.specs.declared.tables.Row.{Row}
use Rattle.pql_model.specs.Comparisons.{is_container}
use Rattle.pql_model.specs.From.{Viewed, rows_given}
use Rattle.pql_model.specs.Steps.{field_of}
use Rattle.pql_model.specs.Tables.{is_committed}
use Rattle.pql_model.specs.Texts.{text_of}
use Rattle.ledger_model.specs.declared.outcome.Item.{Item}
use Rattle.ledger_model.specs.declared.outcome.Item.TheVariants as item
use Rattle.ledger_model.specs.Conditions.{Asked, Meant, Wanted, all_asked, at_names, equal_to, id_of, one_of, parts_of, same_as, unknown}
use Rattle.ledger_model.specs.Follows.{has_index}
use Rattle.ledger_model.specs.Meets.{content_shown, shows_metadata, shows_one}
use Rattle.ledger_model.specs.RedactionArguments.{items_named, named_revision}
use Rattle.ledger_model.specs.State.{Indexed, Table, active_table}
use Rattle.ledger_model.specs.Statements.{table_in}

-- the tables and the fields with an index, the transaction's own changes counted
pub record Schemas : Type 0 where
  pub tables : List Table
  pub indexes : List Indexed

-- ---- what a path means of a source

abbrev pub is_metadata_id : List (List ℕ) → Bool
is_metadata_id (a ∷ b ∷ []) = bytes_eq a (codes "metadata") && bytes_eq b (codes "id")
is_metadata_id _ = false

-- the document's own id, by its BY name or from its metadata
abbrev pub is_id : ℕ → SourceKind → Meant → Bool
is_id n kind (id_of place) = place == n
is_id n kind (at_names place fields) = (place == n) && shows_metadata kind && is_metadata_id fields
is_id n kind unknown = false

abbrev pub field_alone : List (List ℕ) → Option (List ℕ)
field_alone (field ∷ []) = Some field
field_alone _ = None

abbrev pub field_of_data : List (List ℕ) → Option (List ℕ)
field_of_data (first ∷ field ∷ []) = if bytes_eq first (codes "data") then Some field else None
field_of_data _ = None

-- the top field of the document that these names reach; history is read by no key
abbrev pub field_reached : SourceKind → List (List ℕ) → Option (List ℕ)
field_reached (source.Table name) fields = if is_committed name then field_of_data fields else field_alone fields
field_reached (source.History table _ _) fields = None
field_reached (source.Path path) fields = None

abbrev pub field_at : ℕ → SourceKind → Meant → Option (List ℕ)
field_at n kind (at_names place fields) = if place == n then field_reached kind fields else None
field_at n kind _ = None

-- ---- what is read of a source

-- the items that are read of a source, and its rows that meet one of them
pub record Read : Type 0 where
  pub kind : SourceKind
  pub items : List Item
  pub rows : List Row

-- the values of a field of its documents
abbrev pub values_in : Read → List ℕ → List Value
values_in u field = filter_map (λ (row : Row). field_of field (content_shown u.kind row.value)) u.rows

abbrev pub values_reached : List (List ℕ) → Read → Option (List Value)
values_reached fields u = option_map (values_in u) (field_reached u.kind fields)

-- the values that a path means over the rows of an earlier source, where it is a field of a user or committed view
abbrev pub values_meant : List Read → Meant → Option (List Value)
values_meant earlier (at_names place fields) = option_and_then (values_reached fields) (slice_get earlier place)
values_meant earlier _ = None

-- ---- items, each once

abbrev pub with_one : {A : Type 0} → (A → A → Bool) → List A → A → List A
with_one same all x = if list_any (same x) all then all else all ++ x ∷ []

abbrev pub each_once_behind : {A : Type 0} → (A → A → Bool) → List A → List A → List A
each_once_behind same all [] = all
each_once_behind same all (x ∷ xs) = each_once_behind same (with_one same all x) xs

abbrev pub each_once : {A : Type 0} → (A → A → Bool) → List A → List A
each_once same xs = each_once_behind same [] xs

-- a text that reads as an id
abbrev pub document_in : Value → Option DocId
document_in v = option_map (λ raw. record { raw = raw }) (option_and_then id_in (text_of v))

abbrev pub same_document : DocId → DocId → Bool
same_document a b = a.raw == b.raw

abbrev pub documents_of : TableId → List Value → List Item
documents_of table values = map (item.Doc table) (each_once same_document (filter_map document_in values))

abbrev pub keys_of : TableId → List ℕ → List Value → List Item
keys_of table field values = map (item.IndexValue table field) (each_once is_same_key (filter_map key_of values))

-- ---- the rules, each of what is asked of a source's id or of a field with an index

abbrev pub are_few : {A : Type 0} → List A → Bool
are_few xs = nat_le (length xs) 100

abbrev pub if_few : List Item → Option (List Item)
if_few items = if are_few items then Some items else None

-- containers may be equal, and have no key
abbrev pub are_plain : List Value → Bool
are_plain values = not (list_any is_container values)

abbrev pub document_equal : TableId → Wanted → Option (List Item)
document_equal table (equal_to v) = option_map (λ id. item.Doc table id ∷ []) (document_in v)
document_equal table _ = None

abbrev pub document_one_of : TableId → Wanted → Option (List Item)
document_one_of table (one_of values) = if are_few values then Some (documents_of table values) else None
document_one_of table _ = None

abbrev pub document_same : TableId → List Read → Wanted → Option (List Item)
document_same table earlier (same_as m) =
    option_and_then (λ values. if_few (documents_of table values)) (values_meant earlier m)
document_same table earlier _ = None

abbrev pub key_equal : TableId → List ℕ → Wanted → Option (List Item)
key_equal table field (equal_to v) = option_map (λ k. item.IndexValue table field k ∷ []) (key_of v)
key_equal table field _ = None

abbrev pub key_one_of : TableId → List ℕ → Wanted → Option (List Item)
key_one_of table field (one_of values) =
    if are_few values && are_plain values then Some (keys_of table field values) else None
key_one_of table field _ = None

abbrev pub plain_keys : TableId → List ℕ → List Value → Option (List Item)
plain_keys table field values = if are_plain values then if_few (keys_of table field values) else None

abbrev pub key_same : TableId → List ℕ → List Read → Wanted → Option (List Item)
key_same table field earlier (same_as m) = option_and_then (plain_keys table field) (values_meant earlier m)
key_same table field earlier _ = None

-- a source by its place, with its table and what is read of the sources before it
pub record Spot : Type 0 where
  pub place : ℕ
  pub kind : SourceKind
  pub table : TableId
  pub earlier : List Read

-- asked of the source's id
abbrev pub by_id : (Wanted → Option (List Item)) → Spot → Asked → Option (List Item)
by_id rule at a = if is_id at.place at.kind a.of then rule a.wanted else None

abbrev pub if_indexed : (List ℕ → Wanted → Option (List Item)) → Schemas → TableId → Wanted → Option (List ℕ) →
    Option (List Item)
if_indexed rule now table wanted None = None
if_indexed rule now table wanted (Some field) = if has_index now.indexes table field then rule field wanted else None

-- asked of a field of the source that has an index
abbrev pub by_key : (List ℕ → Wanted → Option (List Item)) → Schemas → Spot → Asked → Option (List Item)
by_key rule now at a = if_indexed rule now at.table a.wanted (field_at at.place at.kind a.of)

-- the first that there is
abbrev pub first_of : {A : Type 0} → List A → Option A
first_of [] = None
first_of (a ∷ rest) = Some a

-- what the parts that count ask for, rule by rule
abbrev pub choices : Schemas → Spot → List Asked → List (List Item)
choices now at asked =
    filter_map (by_id (document_equal at.table) at) asked
    ++ filter_map (by_id (document_one_of at.table) at) asked
    ++ filter_map (by_id (document_same at.table at.earlier) at) asked
    ++ filter_map (by_key (key_equal at.table) now at) asked
    ++ filter_map (by_key (key_one_of at.table) now at) asked
    ++ filter_map (by_key (λ field. key_same at.table field at.earlier) now at) asked

-- the first of them, or else the whole table
abbrev pub items_of : Schemas → Spot → List Asked → List Item
items_of now at asked = option_map_or (λ items. items) (first_of (choices now at asked)) (item.Table at.table ∷ [])

-- ---- source by source

-- the active table that a source names
abbrev pub table_of : Schemas → SourceKind → Option TableId
table_of now kind = option_and_then (active_table now.tables) (table_in kind)

-- of a source that names no active table nothing is kept away
abbrev pub is_read : Option TableId → SourceKind → List Item → Row → Bool
is_read None kind items row = true
is_read (Some table) kind items row = shows_one kind table items row

abbrev pub read_with : Viewed → List Value → SourceKind → Option TableId → List Item → Read
read_with views params kind table items = record {
  kind = kind;
  items = items;
  rows = filter (is_read table kind items) (rows_given views params kind);
}

abbrev pub items_at : Schemas → List Asked → List Read → SourceKind → Option TableId → List Item
items_at now asked earlier kind None = []
items_at now asked earlier kind (Some table) =
    items_of now (record { place = length earlier; kind = kind; table = table; earlier = earlier }) asked

abbrev pub read_of : Schemas → Viewed → List Value → List Asked → List Read → SourceKind → Read
read_of now views params asked earlier kind =
    read_with views params kind (table_of now kind) (items_at now asked earlier kind (table_of now kind))

-- source by source, behind what is read of those before
abbrev pub all_read : (List Read → SourceKind → Read) → List Read → List Source → List Read
all_read read earlier [] = []
all_read read earlier (s ∷ ss) = read earlier s.from ∷ all_read read (earlier ++ read earlier s.from ∷ []) ss

abbrev pub sources_read : Schemas → Viewed → List Value → FromClause → List Read
sources_read now views params from =
    all_read (read_of now views params (all_asked from.sources (parts_of params from))) [] from.sources

-- the names of the tables in order
abbrev pub names_read : List Source → List Item
names_read sources = filter_map (λ (s : Source). option_map item.TableName (table_in s.from)) sources

-- and then what is read of each source
abbrev pub items_read : List Source → List Read → List Item
items_read sources reads = names_read sources ++ flat_map (λ (r : Read). r.items) reads

abbrev pub read_by_sources : Schemas → Viewed → List Value → FromClause → List Item
read_by_sources now views params from = items_read from.sources (sources_read now views params from)

-- ---- the footprint of a statement, over the views of the tables and with these parameters

abbrev pub footprint_of : Schemas → Viewed → List Value → Statement → List Item
footprint_of now views params (statement.Create name) = item.TableName name ∷ item.TableList ∷ []
footprint_of now views params (statement.Index name field) = item.TableName name ∷ []
footprint_of now views params (statement.Drop name) = item.TableName name ∷ []
footprint_of now views params (statement.Insert name e) = item.TableName name ∷ []
footprint_of now views params (statement.Select select from) = read_by_sources now views params from
footprint_of now views params (statement.Update from change) = read_by_sources now views params from
footprint_of now views params (statement.From from change) = read_by_sources now views params from
footprint_of now views params (statement.Delete from) = read_by_sources now views params from
footprint_of now views params (statement.Redact address table document) =
    items_named (named_revision params address table document)
