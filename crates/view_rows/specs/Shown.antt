-- Which committed revisions the views show (the committed view and the history of Amazon QLDB).
use Rattle.std.specs.Prelude.{◌≡◌, ◌==◌, ◌&&◌, ℕ, ℤ, Bool, List, [], ◌∷◌, map, Option, is_some, if◌then◌else◌}
use Rattle.std.specs.List.{filter}
use Rattle.std.specs.Ordering.{nat_cmp}
use Rattle.std.specs.BTreeMap as tree
use Rattle.std.specs.BTreeMap.{BTreeMap}
use Rattle.ion_values.specs.declared.value.Value.{Value}
use Rattle.ql_types.specs.declared.TableId.{TableId}
use Rattle.pql_model.specs.declared.tables.Row.{Row}
use Rattle.pql_model.specs.declared.tables.View.{View}
use Rattle.ledger_model.specs.CommittedViews.{began, ended_by, is_between, is_historic, next_began, row_showing}
use Rattle.ledger_model.specs.Progress.{start}
use Rattle.ledger_model.specs.Selecting.{rows_of_table}
use Rattle.ledger_model.specs.State.{Recorded, State, draft_of}
use Rattle.ledger_model.specs.Views.{row_of}

-- the rows of a table's view where nothing pends
abbrev pub rows_shown : State → TableId → View → List Row
rows_shown s table view = rows_of_table s start table view

-- the rows of the documents of the table that aren't deleted, by their latest revisions
abbrev pub live_rows : TableId → List Recorded → List Row
live_rows table latest = map row_showing (filter (λ r. is_some (row_of table (draft_of r))) latest)

-- the revisions of the table that were active between the bounds
abbrev pub historic : TableId → Option Value → Option Value → List Recorded → List Recorded
historic table from to [] = []
historic table from to (r ∷ later) =
    if is_historic table from to r later then r ∷ historic table from to later else historic table from to later

-- the revision is shown, where its document's next one began at this moment
abbrev pub is_shown_before : TableId → Option Value → Option Value → Recorded → Option ℤ → Bool
is_shown_before table from to r next =
    (r.table.raw == table.raw) && is_between from to (began r) (ended_by r.revision.content (began r) next)

-- by its number, the moment at which each document's first one of these revisions began
abbrev pub AreNext : BTreeMap ℕ ℤ → List Recorded → Type 0
AreNext nexts later = (id : ℕ) → tree.get nat_cmp nexts id ≡ next_began id later
