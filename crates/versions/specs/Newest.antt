-- The latest revision of each document, in order of first insertion.
use Rattle.std.specs.Prelude.{ℕ, ◌==◌, List, [], ◌∷◌, if◌then◌else◌}
use Rattle.versions.specs.declared.recorded.Recorded.{Recorded}

-- the id of the revision's document
abbrev pub id_of : Recorded → ℕ
id_of r = r.revision.metadata.id.raw

-- after one revision more: in the place of its document's earlier one, or at the end
abbrev pub put : List Recorded → Recorded → List Recorded
put [] r = r ∷ []
put (d ∷ ds) r = if id_of d == id_of r then r ∷ ds else d ∷ put ds r

abbrev pub newest_from : List Recorded → List Recorded → List Recorded
newest_from documents [] = documents
newest_from documents (r ∷ rs) = newest_from (put documents r) rs

abbrev pub newest : List Recorded → List Recorded
newest revisions = newest_from [] revisions
