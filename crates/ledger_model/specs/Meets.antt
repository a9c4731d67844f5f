-- An item of a footprint is a test on the rows of a table's view (the ledger's own rule): a document by its id, a key
-- by the first field of that name of the document's content, and a table always. Finer footprints are only other
-- lists of such items.
use Rattle.std.specs.Prelude.{◌==◌, ◌&&◌, Bool, true, false, List, codes, Option, Some, None, if◌then◌else◌}
use Rattle.std.specs.List.{list_any}
use Rattle.ion_values.specs.declared.value.Body.TheVariants as body
use Rattle.ion_values.specs.declared.value.Kind.TheVariants.{Null}
use Rattle.ion_values.specs.declared.value.Value.{Value}
use Rattle.ql_types.specs.declared.TableId.{TableId}
use Rattle.pql_model.specs.declared.statement.SourceKind.{SourceKind}
use Rattle.pql_model.specs.declared.statement.SourceKind.TheVariants as source
use Rattle.pql_model.specs.declared.tables.Row.{Row}
use Rattle.pql_model.specs.Made.{made}
use Rattle.pql_model.specs.Steps.{field_of}
use Rattle.pql_model.specs.Tables.{has_key, is_committed, key_in}
use Rattle.ledger_model.specs.declared.outcome.Item.{Item}
use Rattle.ledger_model.specs.declared.outcome.Item.TheVariants as item

-- whether a document of the table, as its id and its content, meets the item
abbrev pub meets : TableId → Item → Row → Bool
meets table (item.TableName name) row = false
meets table item.TableList row = false
meets table (item.Table read) row = read.raw == table.raw
meets table (item.Doc read id) row = (read.raw == table.raw) && (row.id.raw == id.raw)
meets table (item.IndexValue read field k) row =
    (read.raw == table.raw) && has_key k (key_in (field_of field row.value))

-- whether it meets one of the items
abbrev pub meets_one : TableId → List Item → Row → Bool
meets_one table items row = list_any (λ i. meets table i row) items

-- ---- the document that a row of a view shows

-- the committed view and history show each revision's metadata
abbrev pub shows_metadata : SourceKind → Bool
shows_metadata (source.Table name) = is_committed name
shows_metadata (source.History table _ _) = true
shows_metadata (source.Path path) = false

abbrev pub or_null : Option Value → Value
or_null None = made (body.Null Null)
or_null (Some v) = v

-- of a delete in a history there is none
abbrev pub data_in : Value → Value
data_in v = or_null (field_of (codes "data") v)

-- the committed view and history show it in a field
abbrev pub content_shown : SourceKind → Value → Value
content_shown kind v = if shows_metadata kind then data_in v else v

abbrev pub document_shown : SourceKind → Row → Row
document_shown kind row = record { id = row.id; value = content_shown kind row.value }

-- whether the document of a row of the source meets one of the items
abbrev pub shows_one : SourceKind → TableId → List Item → Row → Bool
shows_one kind table items row = meets_one table items (document_shown kind row)
