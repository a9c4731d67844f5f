-- What a statement that writes does to documents (UPDATE, FROM with a change, and DELETE as in Amazon QLDB's PartiQL;
-- in which order documents are touched is the ledger's own). Its rows stand as they were before it; what it changes
-- is the document as it is by then.
use Rattle.std.specs.Prelude.{ℕ, ◌==◌, Bool, List, [], ◌∷◌, ◌++◌, map, codes, slice_get, if◌then◌else◌}
use Rattle.std.specs.List.{list_any}
use Rattle.std.specs.Option.{option_and_then, option_map, option_map_or}
use Rattle.std.specs.declared.option.Option.{Option}
use Rattle.std.specs.declared.option.Option.TheVariants.{None, Some}
use Rattle.ql_types.specs.Ids.{id_text}
use Rattle.ql_types.specs.declared.DocId.{DocId}
use Rattle.ion_values.specs.declared.value.Body.TheVariants as body
use Rattle.ion_values.specs.declared.value.Value.{Value}
use Rattle.pql_model.specs.declared.expr.Path.{Path}
use Rattle.pql_model.specs.declared.scope.Bound.{Bound}
use Rattle.pql_model.specs.declared.statement.Change.{Change}
use Rattle.pql_model.specs.declared.tables.Row.{Row}
use Rattle.pql_model.specs.Changes.{Alteration, alterations}
use Rattle.pql_model.specs.From.{Combined}
use Rattle.pql_model.specs.Made.{made}
use Rattle.pql_model.specs.Meaning.{under}
use Rattle.pql_model.specs.Names.{called_in_row, root_at}

-- ---- which document a row names

-- the source that a path of a change begins at, by its place
abbrev pub root_of : Combined → Path → Option ℕ
root_of scope p = root_at p.first (map called_in_row scope)

-- the document of a source in the row
abbrev pub document_in : Bound → Option Row
document_in b = option_map (λ id. record { id = id; value = b.value }) b.id

abbrev pub document_at : Combined → ℕ → Option Row
document_at scope place = option_and_then document_in (slice_get scope place)

abbrev pub document_of : Combined → Path → Option Row
document_of scope p = option_and_then (document_at scope) (root_of scope p)

-- ---- UPDATE, and FROM with a change

-- a change of a document, which stands as earlier changes left it, or else as the row has it
abbrev pub touch : (Value → Value) → Row → List Row → List Row
touch f d [] = record { id = d.id; value = f d.value } ∷ []
touch f d (t ∷ ts) = if d.id.raw == t.id.raw then record { id = t.id; value = f t.value } ∷ ts else t ∷ touch f d ts

abbrev pub touched_by : Combined → List Row → Alteration → List Row
touched_by scope touched a = option_map_or (λ d. touch a.made d touched) (document_of scope a.target) touched

-- the changes of one row, in order
abbrev pub touched_in : Combined → List Row → List Alteration → List Row
touched_in scope touched [] = touched
touched_in scope touched (a ∷ more) = touched_in scope (touched_by scope touched a) more

abbrev pub touched_from : List Value → Change → List Row → List Combined → List Row
touched_from params c touched [] = touched
touched_from params c touched (scope ∷ rows) =
    touched_from params c (touched_in scope touched (alterations (under scope params) c)) rows

-- the documents that the rows name, each once, in order of its first row and, within one row, of its first change,
-- with their changed content
abbrev pub changed_documents : List Value → Change → List Combined → List Row
changed_documents params c rows = touched_from params c [] rows

-- ---- DELETE

-- a row names the document of its only source
abbrev pub deleted_in : Combined → Option Row
deleted_in scope = document_at scope 0

abbrev pub is_named : DocId → List DocId → Bool
is_named id ids = list_any (λ other. id.raw == other.raw) ids

abbrev pub with_id : List DocId → DocId → List DocId
with_id ids id = if is_named id ids then ids else ids ++ id ∷ []

abbrev pub deleted_from : List DocId → List Combined → List DocId
deleted_from ids [] = ids
deleted_from ids (scope ∷ rows) = deleted_from (option_map_or (λ d. with_id ids d.id) (deleted_in scope) ids) rows

-- the documents that the rows name, each once, in order of its first row
abbrev pub deleted_documents : List Combined → List DocId
deleted_documents rows = deleted_from [] rows

-- ---- the answer

abbrev pub document_named : DocId → Value
document_named id =
    made (body.Struct (record { name = codes "documentId"; value = made (body.String (id_text id.raw)) } ∷ []))

-- one struct for each document, in order
abbrev pub answer_of : List DocId → List Value
answer_of ids = map document_named ids
