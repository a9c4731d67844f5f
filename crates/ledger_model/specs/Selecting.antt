-- What SELECT does in a transaction (Amazon QLDB's PartiQL), and the rows that statements see of the tables.
use Rattle.std.specs.Prelude.{ℕ, List, [], ◌∷◌, map, Option, Some, None, Result, Ok, is_some, if◌then◌else◌}
use Rattle.ion_values.specs.declared.value.Value.{Value}
use Rattle.pql_model.specs.declared.statement.FromClause.{FromClause}
use Rattle.pql_model.specs.declared.statement.Select.{Select}
use Rattle.pql_model.specs.declared.statement.Source.{Source}
use Rattle.pql_model.specs.declared.tables.Row.{Row}
use Rattle.pql_model.specs.declared.tables.View.{View}
use Rattle.pql_model.specs.declared.tables.View.TheVariants as view
use Rattle.pql_model.specs.Answers.{answered}
use Rattle.pql_model.specs.From.{Viewed, rows_of}
use Rattle.ql_types.specs.declared.TableId.{TableId}
use Rattle.ledger_model.specs.declared.outcome.Refusal.{Refusal}
use Rattle.ledger_model.specs.declared.outcome.Refusal.TheVariants.{NoSuchTable}
use Rattle.ledger_model.specs.CommittedViews.{committed_view, history_view}
use Rattle.ledger_model.specs.Progress.{Progress, Effect, or_else, table_now, unless}
use Rattle.ledger_model.specs.State.{State, draft_of}
use Rattle.ledger_model.specs.Statements.{table_in}
use Rattle.ledger_model.specs.Views.{user_view}

abbrev pub absent_table : State → Progress → Option (List ℕ) → Option Refusal
absent_table s p None = None
absent_table s p (Some name) = if is_some (table_now s p name) then None else Some (NoSuchTable name)

-- the first table in the text that isn't active
abbrev pub first_absent : State → Progress → List Source → Option Refusal
first_absent s p [] = None
first_absent s p (x ∷ xs) = or_else (absent_table s p (table_in x.from)) (first_absent s p xs)

-- what pends shows in the user view alone
abbrev pub rows_of_table : State → Progress → TableId → View → List Row
rows_of_table s p table view.User = user_view table (map draft_of s.revisions) p.log
rows_of_table s p table view.Committed = committed_view table s.revisions
rows_of_table s p table (view.History start end) = history_view table start end s.revisions

-- of a table that isn't active there are none
abbrev pub rows_in : State → Progress → View → Option TableId → List Row
rows_in s p v None = []
rows_in s p v (Some table) = rows_of_table s p table v

-- the views of the tables, the transaction's own changes counted
abbrev pub views_of : State → Progress → Viewed
views_of s p name v = rows_in s p v (table_now s p name)

abbrev pub selected : State → Progress → List Value → Select → FromClause → Result Effect Refusal
selected s p params select from = unless (first_absent s p from.sources) (Ok (record {
  rows = answered params (rows_of (views_of s p) params from) select;
  schema = [];
  log = [];
  made = 0;
  footprint = [];
}))
