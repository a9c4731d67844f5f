-- What a SELECT answers on tables in memory, and why it is refused.
use Rattle.std.specs.Prelude.{List, [], ◌∷◌, Option, Some, None, Result, Ok, is_some, ℕ, if◌then◌else◌}
use Rattle.ion_values.specs.declared.value.Value.{Value}
use Rattle.pql_model.specs.declared.statement.FromClause.{FromClause}
use Rattle.pql_model.specs.declared.statement.Select.{Select}
use Rattle.pql_model.specs.declared.statement.Select.TheVariants as select
use Rattle.pql_model.specs.declared.statement.SelectItem.{SelectItem}
use Rattle.pql_model.specs.declared.statement.Source.{Source}
use Rattle.pql_model.specs.Answers.{answered, are_aggregates}
use Rattle.pql_model.specs.From.{rows_of}
use Rattle.ledger_model.specs.declared.block.Draft.{Draft}
use Rattle.ledger_model.specs.declared.outcome.Refusal.{Refusal}
use Rattle.ledger_model.specs.declared.outcome.Refusal.TheVariants.{NoSuchTable}
use Rattle.ledger_model.specs.State as state
use Rattle.ledger_model.specs.State.{State, active_table}
use Rattle.ledger_model.specs.Run.{or_else, table_in}
use Rattle.txn_core.specs.Inserts.{without}
use Rattle.txn_core.specs.TableViews.{views_among}

-- a table of the name isn't active
abbrev pub absent_name : List state.Table → List ℕ → Option Refusal
absent_name tables name = if is_some (active_table tables name) then None else Some (NoSuchTable name)

abbrev pub absent_in : List state.Table → Option (List ℕ) → Option Refusal
absent_in tables None = None
absent_in tables (Some name) = absent_name tables name

-- the first table of the sources that isn't active
abbrev pub first_absent_in : List state.Table → List Source → Option Refusal
first_absent_in tables [] = None
first_absent_in tables (x ∷ xs) = or_else (absent_in tables (table_in x.from)) (first_absent_in tables xs)

-- the rows of the answer over a state and documents with their latest revisions
abbrev pub answer_in : List state.Table → State → List Draft → List Value → Select → FromClause →
    Result (List Value) Refusal
answer_in tables base documents params select from =
    without (first_absent_in tables from.sources) (Ok
    (answered params (rows_of (views_among tables base documents) params from) select))

-- the items of a SELECT that are all aggregates
abbrev pub aggregates_in : Select → Option (List SelectItem)
aggregates_in (select.Items items) = if are_aggregates items then Some items else None
aggregates_in _ = None
