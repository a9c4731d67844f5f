-- The rows of a table's user view: the latest content of its documents that aren't deleted, in order of first
-- insertion.
use Rattle.std.specs.Prelude.{◌==◌, List, [], ◌∷◌, ◌++◌, Option, Some, None, if◌then◌else◌}
use Rattle.std.specs.List.{filter_map}
use Rattle.ql_types.specs.declared.DocId.{DocId}
use Rattle.ql_types.specs.declared.TableId.{TableId}
use Rattle.ledger_model.specs.declared.block.Draft.{Draft}
use Rattle.ledger_model.specs.declared.block.Content.{Content}
use Rattle.ledger_model.specs.declared.block.Content.TheVariants.{Deleted, Kept, Redacted}
use Rattle.pql_model.specs.declared.tables.Row.{Row}

-- the documents in order of first insertion, each with its latest revision, after one revision more
abbrev pub put : List Draft → Draft → List Draft
put [] r = r ∷ []
put (d ∷ ds) r = if d.id.raw == r.id.raw then r ∷ ds else d ∷ put ds r

abbrev pub latest_from : List Draft → List Draft → List Draft
latest_from documents [] = documents
latest_from documents (r ∷ rs) = latest_from (put documents r) rs

abbrev pub latest : List Draft → List Draft
latest revisions = latest_from [] revisions

abbrev pub live : DocId → Content → Option Row
live id Deleted = None
live id (Kept v) = Some (record { id = id; value = v })
live id (Redacted hash) = None

abbrev pub row_of : TableId → Draft → Option Row
row_of table d = if d.table.raw == table.raw then live d.id d.content else None

-- the table's rows over committed revisions and then pending ones
abbrev pub user_view : TableId → List Draft → List Draft → List Row
user_view table committed pending = filter_map (row_of table) (latest (committed ++ pending))
