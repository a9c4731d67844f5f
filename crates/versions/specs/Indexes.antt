-- What is kept of the fields with an index: of each key the places of the documents that have it.
use Rattle.std.specs.Prelude.{◌≡◌, ℕ, ◌==◌, ◌&&◌, Bool, true, false, List, [], ◌∷◌, map, Option, Some, None, if◌then◌else◌}
use Rattle.std.specs.List.{filter_map}
use Rattle.std.specs.Str.{bytes_eq}
use Rattle.ql_types.specs.declared.DocId.{DocId}
use Rattle.ql_types.specs.declared.TableId.{TableId}
use Rattle.ion_values.specs.declared.value.Key.{Key}
use Rattle.ion_values.specs.Keys.{compare_keys, is_same_key}
use Rattle.pql_model.specs.declared.tables.Probe.TheVariants as probe
use Rattle.pql_model.specs.declared.tables.Row.{Row}
use Rattle.pql_model.specs.Steps.{field_of}
use Rattle.pql_model.specs.Tables.{key_in, meeting, meets}
use Rattle.ledger_model.specs.declared.block.Draft.{Draft}
use Rattle.ledger_model.specs.State as state
use Rattle.ledger_model.specs.Views.{latest, row_of}
use Rattle.versions.specs.declared.recorded.Recorded.{Recorded}
use Rattle.versions.specs.declared.tables.Indexed.{Indexed}
use Rattle.versions.specs.Held.{recorded_of}
use Rattle.versions.specs.Filing.{AreFiled}

-- none or the same key
abbrev pub is_same_or_none : Option Key → Option Key → Bool
is_same_or_none None None = true
is_same_or_none None (Some b) = false
is_same_or_none (Some a) None = false
is_same_or_none (Some a) (Some b) = is_same_key a b

abbrev pub key_shown : List ℕ → Option Row → Option Key
key_shown field None = None
key_shown field (Some row) = key_in (field_of field row.value)

-- the key in a document's first field of the name, where the document is of the table and isn't deleted
abbrev pub key_on : TableId → List ℕ → Recorded → Option Key
key_on table field r = key_shown field (row_of table (state.draft_of (recorded_of r)))

-- each key has the places of the documents that have it in the index's field
abbrev pub IsIndex : List Recorded → Indexed → List (Key × List ℕ) → Type 0
IsIndex documents index postings = AreFiled compare_keys (key_on index.table index.field) postings documents

-- the same of each index
abbrev pub AreIndexes : List Recorded → List Indexed → List (List (Key × List ℕ)) → Type 0
AreIndexes documents [] ps = ps ≡ []
AreIndexes documents (i ∷ is) [] = ⊥
AreIndexes documents (i ∷ is) (p ∷ ps) = IsIndex documents i p × AreIndexes documents is ps

-- the postings of the first index on the table's field
abbrev pub tree_on : List Indexed → List (List (Key × List ℕ)) → TableId → List ℕ → Option (List (Key × List ℕ))
tree_on [] ps table field = None
tree_on (i ∷ is) [] table field = None
tree_on (i ∷ is) (p ∷ ps) table field =
    if (i.table.raw == table.raw) && bytes_eq i.field field then Some p else tree_on is ps table field

-- the ids of the table's documents that aren't deleted and whose latest content has the key in its first field of the
-- name, in order of first insertion
abbrev pub documents_with : List state.Recorded → TableId → List ℕ → Key → List DocId
documents_with revisions table field key =
    map (λ row. row.id) (meeting (probe.Key field key)
    (filter_map (row_of table) (latest (map state.draft_of revisions))))

-- whether a row passes the test, if there is one
abbrev pub passes : (Row → Bool) → Option Row → Bool
passes test None = false
passes test (Some row) = test row

-- whether a document has a row in the table, with the key in its first field of the name
abbrev pub has_key_in : TableId → List ℕ → Key → Draft → Bool
has_key_in table field key d = passes (meets (probe.Key field key)) (row_of table d)
