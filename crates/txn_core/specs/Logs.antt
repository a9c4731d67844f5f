-- Pending revisions, and the places of the last one of each document.
use Rattle.std.specs.Prelude.{◌≡◌, ℕ, ◌+◌, ◌==◌, List, [], ◌∷◌, ◌++◌, map, set, slice_get, Option, Some, None, option_map, if◌then◌else◌}
use Rattle.ledger_model.specs.declared.block.Draft.{Draft}
use Rattle.ledger_model.specs.Views.{latest}
use Rattle.txn_core.specs.declared.log.Touched.{Touched}

-- a document by its id, with a revision
abbrev pub with_id : Draft → ℕ × Option Draft
with_id d = (d.id.raw, Some d)

-- the same with what stands at its place
abbrev pub with_place : List Draft → Touched → ℕ × Option Draft
with_place log t = (t.id.raw, slice_get log t.place)

-- at the places stand the last revisions of the documents
abbrev pub AreTouched : List Draft → List Touched → Type 0
AreTouched log touched = map (with_place log) touched ≡ map with_id (latest log)

abbrev pub place_touched : List Touched → ℕ → Option ℕ
place_touched [] id = None
place_touched (t ∷ ts) id = if t.id.raw == id then Some 0 else option_map (λ at. at + 1) (place_touched ts id)

abbrev pub put_at : Option ℕ → List Touched → Touched → List Touched
put_at None touched t = touched ++ t ∷ []
put_at (Some at) touched t = set touched at t

-- a document in the place of the same one, or at the end
abbrev pub put_touched : List Touched → Touched → List Touched
put_touched touched t = put_at (place_touched touched t.id.raw) touched t
