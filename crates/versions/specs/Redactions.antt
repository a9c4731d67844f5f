-- Revisions as they are after redactions.
use Rattle.std.specs.Prelude.{◌≡◌, ◌==◌, ℕ, Bool, zero, suc, List, [], ◌∷◌, Option, slice_get, if◌then◌else◌}
use Rattle.std.specs.List.{filter_map, find, list_any}
use Rattle.ql_types.specs.declared.DocId.{DocId}
use Rattle.ledger_model.specs.declared.block.Schema.{Schema}
use Rattle.ledger_model.specs.declared.block.Schema.TheVariants.{Redact}
use Rattle.ledger_model.specs.State as state
use Rattle.versions.specs.declared.recorded.Recorded.{Recorded}
use Rattle.versions.specs.Held.{recorded_of}
use Rattle.versions.specs.Newest.{id_of}

-- the revision with its data's hash in place of the data
abbrev pub hidden : Recorded → Recorded
hidden r = record r { revision = record r.revision { content = state.hashed r.revision.content } }

-- the revision after a change
abbrev pub changed_by : Schema → Recorded → Recorded
changed_by c r = if state.redacts (recorded_of r) c then hidden r else r

-- a revision of the same document is among these
abbrev pub is_revised : List Recorded → Recorded → Bool
is_revised later r = list_any (λ x. id_of x == id_of r) later

-- all revisions after a change, which leaves a document's latest as it is
abbrev pub all_changed : Schema → List Recorded → List Recorded
all_changed c [] = []
all_changed c (r ∷ later) = (if is_revised later r then changed_by c r else r) ∷ all_changed c later

-- a redaction, if it is one, of a revision of this document
abbrev pub IsOfDocument : Schema → DocId → Type 0
IsOfDocument (Redact address table document) id = document ≡ id
IsOfDocument _ id = Unit {0}

-- the revisions, the one at this place as it is after the change
abbrev pub changed_at : Schema → ℕ → List Recorded → List Recorded
changed_at c at [] = []
changed_at c zero (r ∷ rs) = changed_by c r ∷ rs
changed_at c (suc at) (r ∷ rs) = r ∷ changed_at c at rs

-- all places but the last
abbrev pub before_last : List ℕ → List ℕ
before_last [] = []
before_last (at ∷ []) = []
before_last (at ∷ next ∷ places) = at ∷ before_last (next ∷ places)

-- the revisions, those at these places as they are after the change
abbrev pub changed_along : Schema → List ℕ → List Recorded → List Recorded
changed_along c [] rs = rs
changed_along c (at ∷ places) rs = changed_along c places (changed_at c at rs)

-- the first of the revisions at these places that the change redacts
abbrev pub named_in : Schema → List Recorded → List ℕ → Option Recorded
named_in c revisions places =
    find (λ r. state.redacts (recorded_of r) c) (filter_map (λ at. slice_get revisions at) places)
