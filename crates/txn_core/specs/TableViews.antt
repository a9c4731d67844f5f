-- The views of tables in memory (the views of Amazon QLDB): what pends shows in the user view alone.
use Rattle.std.specs.Prelude.{List, [], ◌++◌, map, Option, Some, None}
use Rattle.std.specs.List.{filter_map}
use Rattle.ql_types.specs.declared.TableId.{TableId}
use Rattle.pql_model.specs.declared.tables.Row.{Row}
use Rattle.pql_model.specs.declared.tables.View.{View}
use Rattle.pql_model.specs.declared.tables.View.TheVariants as view
use Rattle.pql_model.specs.From.{Viewed}
use Rattle.ledger_model.specs.CommittedViews.{committed_view, history_view}
use Rattle.ledger_model.specs.declared.block.Draft.{Draft}
use Rattle.ledger_model.specs.State as state
use Rattle.ledger_model.specs.State.{State, active_table, draft_of}
use Rattle.ledger_model.specs.Views.{latest, row_of}
use Rattle.txn_core.specs.declared.table_views.TableViews.{TableViews}
use Rattle.versions.specs.Held.{table_of}

-- the rows of a table's view, over a state and documents with their latest revisions
abbrev pub rows_among : State → List Draft → View → TableId → List Row
rows_among base documents view.User table = filter_map (row_of table) documents
rows_among base documents view.Committed table = committed_view table base.revisions
rows_among base documents (view.History start end) table = history_view table start end base.revisions

-- of a table that isn't active there are none
abbrev pub rows_of_active : State → List Draft → View → Option TableId → List Row
rows_of_active base documents v None = []
rows_of_active base documents v (Some table) = rows_among base documents v table

abbrev pub views_among : List state.Table → State → List Draft → Viewed
views_among tables base documents name v = rows_of_active base documents v (active_table tables name)

-- the documents with their latest revisions, what pends counted
abbrev pub documents_in : TableViews → List Draft
documents_in u = latest (map draft_of u.base.now.revisions ++ u.log.now)

abbrev pub views_in : TableViews → Viewed
views_in u = views_among (map table_of u.tables.now) u.base.now (documents_in u)
