-- The revisions of each table, by their places.
use Rattle.std.specs.Prelude.{◌≡◌, ℕ, ◌==◌, List, [], ◌∷◌, ◌++◌, if◌then◌else◌}
use Rattle.std.specs.List.{filter}
use Rattle.std.specs.Option.{unwrap_or}
use Rattle.std.specs.declared.cmp.Ordering.{Ordering}
use Rattle.std.specs.Ordering.{nat_cmp}
use Rattle.std.specs.Map.{lookup}
use Rattle.std.specs.BTreeMap.{is_at}
use Rattle.ql_types.specs.declared.TableId.{TableId}
use Rattle.ledger_model.specs.State as state
use Rattle.versions.specs.declared.recorded.Recorded.{Recorded}
use Rattle.versions.specs.Filing.{places_from}

-- the order of tables' ids
abbrev pub by_table : TableId → TableId → Ordering
by_table a b = nat_cmp a.raw b.raw

-- the revisions of the table's documents, in block order
abbrev pub revisions_in : List state.Recorded → TableId → List state.Recorded
revisions_in revisions table = filter (λ (r : state.Recorded). r.table.raw == table.raw) revisions

-- what the map has of a table
abbrev pub had_of : List (TableId × List ℕ) → TableId → List ℕ
had_of tables table = unwrap_or (lookup (is_at (by_table table)) tables) []

-- the map with a place more, of this table
abbrev pub IsEntered : List (TableId × List ℕ) → TableId → ℕ → List (TableId × List ℕ) → Type 0
IsEntered tables table place new =
    (t : TableId) → had_of new t
    ≡ (if table.raw == t.raw then had_of tables t ++ place ∷ [] else had_of tables t)

-- the map has the places of each table's revisions
abbrev pub AreByTable : List (TableId × List ℕ) → List Recorded → Type 0
AreByTable tables revisions =
    (table : TableId) → had_of tables table ≡ places_from (λ r. r.table.raw == table.raw) 0 revisions
