-- What is asked of a state's tables and documents.
use Rattle.std.specs.Prelude.{◌≡◌, ℕ, ◌==◌, Bool, List, [], ◌∷◌, map, Option, Some, None, if◌then◌else◌}
use Rattle.std.specs.List.{filter, filter_map, list_any}
use Rattle.ql_types.specs.declared.DocId.{DocId}
use Rattle.ql_types.specs.declared.TableId.{TableId}
use Rattle.ledger_model.specs.declared.block.Draft.{Draft}
use Rattle.ledger_model.specs.Follows.{latest_of}
use Rattle.ledger_model.specs.State as state
use Rattle.ledger_model.specs.Views.{latest, row_of}
use Rattle.versions.specs.declared.recorded.Recorded.{Recorded}
use Rattle.versions.specs.Newest.{id_of}

-- the name with which the table of this id was made
abbrev pub name_of : List state.Table → TableId → Option (List ℕ)
name_of [] id = None
name_of (t ∷ ts) id = if t.id.raw == id.raw then Some t.name else name_of ts id

-- the first one that is of this document
abbrev pub document_in : List Recorded → ℕ → Option Recorded
document_in [] id = None
document_in (d ∷ ds) id = if id_of d == id then Some d else document_in ds id

-- no two of them are of one document
abbrev pub AreApart : List Recorded → Type 0
AreApart [] = Unit {0}
AreApart (d ∷ ds) = (document_in ds (id_of d) ≡ None) × AreApart ds

-- the ids of the documents of the table among these that aren't deleted
abbrev pub ids_among : TableId → List Draft → List DocId
ids_among table documents = map (λ row. row.id) (filter_map (row_of table) documents)

-- the same of the documents that the revisions are of, in order of first insertion
abbrev pub documents_of : List state.Recorded → TableId → List DocId
documents_of revisions table = ids_among table (latest (map state.draft_of revisions))

-- the last revision of each document, in order of first insertion
abbrev pub last_of_each : List state.Recorded → List (Option state.Recorded)
last_of_each revisions = map (λ d. latest_of revisions d.id.raw) (latest (map state.draft_of revisions))

-- whether the document of this id is one of these
abbrev pub is_among : List DocId → ℕ → Bool
is_among ids id = list_any (λ (i : DocId). id == i.raw) ids

abbrev pub is_one_of : List DocId → Recorded → Bool
is_one_of ids r = is_among ids (id_of r)

-- the documents that are among these
abbrev pub those_among : List DocId → List Draft → List Draft
those_among ids documents = filter (λ (d : Draft). is_among ids d.id.raw) documents

-- the last revision of each of these documents
abbrev pub last_among : List DocId → List state.Recorded → List (Option state.Recorded)
last_among ids revisions =
    map (λ (d : Draft). latest_of revisions d.id.raw) (those_among ids (latest (map state.draft_of revisions)))

-- the id of a revision's document, where there is one
abbrev pub id_in : Option Recorded → List DocId
id_in None = []
id_in (Some r) = r.revision.metadata.id ∷ []
