-- Rows of documents that are named by their ids.
use Rattle.std.specs.Prelude.{◌≡◌, Bool, true, List}
use Rattle.std.specs.List.{AllByRecursion, filter}
use Rattle.ql_types.specs.declared.DocId.{DocId}
use Rattle.pql_model.specs.declared.tables.Row.{Row}
use Rattle.versions.specs.Lookups.{is_among}

-- the rows of these documents
abbrev pub rows_among : List DocId → List Row → List Row
rows_among ids rows = filter (λ (row : Row). is_among ids row.id.raw) rows

-- no other row passes the test
abbrev pub AreNamed : List DocId → (Row → Bool) → List Row → Type 0
AreNamed ids test rows = AllByRecursion (λ (row : Row). test row ≡ true → is_among ids row.id.raw ≡ true) rows
