-- The revisions of each document by their places, the documents in order of first insertion.
use Rattle.std.specs.Prelude.{◌≡◌, ℕ, ◌==◌, List, [], ◌∷◌, ◌++◌, length, slice_get, slice_set, Option, Some, None}
use Rattle.std.specs.List.{filter}
use Rattle.std.specs.Option.{unwrap_or}
use Rattle.ledger_model.specs.State as state
use Rattle.versions.specs.declared.recorded.Recorded.{Recorded}
use Rattle.versions.specs.Filing.{places_from}
use Rattle.versions.specs.Newest.{id_of}
use Rattle.versions.specs.Places.{ids_of, place_in}

-- the places of a document's revisions
abbrev pub places_of : List Recorded → ℕ → List ℕ
places_of revisions id = places_from (λ r. id_of r == id) 0 revisions

-- what is kept of the document at a place, if there is one
abbrev pub history_at : List (List ℕ) → Option ℕ → List ℕ
history_at kept None = []
history_at kept (Some at) = unwrap_or (slice_get kept at) []

-- with a place more: at the end of the history of a document, or as that of a new one
abbrev pub entered : List (List ℕ) → Option ℕ → ℕ → List (List ℕ)
entered kept None place = kept ++ (place ∷ []) ∷ []
entered kept (Some at) place = slice_set kept at (history_at kept (Some at) ++ place ∷ [])

-- beside the latest revision of each document the places of all its revisions are kept
pub record AreHistories (kept : List (List ℕ)) (latest revisions : List Recorded) : Type 0 where
  pub long : length kept ≡ length latest
  pub places : (id : ℕ) → history_at kept (place_in (ids_of latest) id) ≡ places_of revisions id

-- the revisions of the document of this id, in order
abbrev pub revisions_of : List state.Recorded → ℕ → List state.Recorded
revisions_of revisions id = filter (λ (r : state.Recorded). r.revision.metadata.id.raw == id) revisions
