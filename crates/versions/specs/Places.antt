-- The place of an id among others: that of the first equal one, counted from 0.
use Rattle.std.specs.Prelude.{◌≡◌, ℕ, ◌+◌, ◌==◌, Bool, true, nat_lt, List, [], ◌∷◌, Option, Some, None, option_map, map, if◌then◌else◌}
use Rattle.std.specs.declared.cmp.Ordering.{Ordering}
use Rattle.std.specs.Ordering.{nat_cmp}
use Rattle.std.specs.Map.{lookup}
use Rattle.std.specs.BTreeMap.{insert_entry, is_at}
use Rattle.ql_types.specs.declared.DocId.{DocId}
use Rattle.ledger_model.specs.declared.block.Draft.{Draft}
use Rattle.index_post.specs.Positions.{with_position}
use Rattle.versions.specs.declared.recorded.Recorded.{Recorded}
use Rattle.versions.specs.Newest.{id_of}

abbrev pub place_in : List ℕ → ℕ → Option ℕ
place_in [] id = None
place_in (x ∷ xs) id = if x == id then Some 0 else option_map (λ at. at + 1) (place_in xs id)

abbrev pub ids_of : List Recorded → List ℕ
ids_of documents = map id_of documents

-- the numbers of the documents' ids
abbrev pub numbers_of : List Draft → List ℕ
numbers_of documents = map (λ (d : Draft). d.id.raw) documents

-- the order of documents' ids
abbrev pub by_id : DocId → DocId → Ordering
by_id a b = nat_cmp a.raw b.raw

-- the map has the place of each of these ids, and no other
abbrev pub ArePlaces : List (DocId × ℕ) → List ℕ → Type 0
ArePlaces places ids = (id : DocId) → lookup (is_at (by_id id)) places ≡ place_in ids id.raw

-- the places with this one, if there is one
abbrev pub with_place : Option ℕ → List ℕ → List ℕ
with_place None places = places
with_place (Some at) places = with_position at places

-- the same of a map that leads each place to itself
abbrev pub put_place : Option ℕ → List (ℕ × ℕ) → List (ℕ × ℕ)
put_place None places = places
put_place (Some at) places = insert_entry nat_cmp places at at

-- ---- places one behind another

-- whether a place is behind the last one, if there are both
abbrev pub is_behind : Option ℕ → Option ℕ → Bool
is_behind (Some last) (Some place) = nat_lt last place
is_behind _ _ = true

-- the last place, with this one behind it
abbrev pub last_with : Option ℕ → Option ℕ → Option ℕ
last_with last None = last
last_with last (Some place) = Some place
