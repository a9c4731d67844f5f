-- What a transaction's statements mean, one after another, on a state and the changes that pend so far.
use Rattle.std.specs.Prelude.{ℕ, ◌+◌, ◌==◌, ◌&&◌, not, Bool, List, [], ◌∷◌, ◌++◌, Option, Some, None, Result, Ok, Err}
use Rattle.std.specs.List.{filter}
use Rattle.ion_values.specs.declared.value.Value.{Value}
use Rattle.pql_model.specs.declared.statement.Statement.{Statement}
use Rattle.pql_model.specs.declared.statement.Statement.TheVariants as statement
use Rattle.ledger_model.specs.declared.block.Draft.{Draft}
use Rattle.ledger_model.specs.declared.script.Request.{Request}
use Rattle.ledger_model.specs.declared.outcome.Item.{Item}
use Rattle.ledger_model.specs.declared.outcome.Refusal.{Refusal}
use Rattle.ledger_model.specs.declared.outcome.Refusal.TheVariants.{TooDeep}
use Rattle.ledger_model.specs.Follows.{is_kept}
use Rattle.ledger_model.specs.Footprints.{Schemas, footprint_of}
use Rattle.ledger_model.specs.State.{State, all_indexed}
use Rattle.ledger_model.specs.Statements.{statement_of}
use Rattle.ledger_model.specs.Views.{latest}
use Rattle.ledger_model.specs.Writing.{changed, deleted}
pub use Rattle.ledger_model.specs.Inserting.{documents_in, if_documents, inserted, members_or, new_document, stored}
pub use Rattle.ledger_model.specs.Progress.{Begun, Effect, Progress, and_then, changed_by, first_deep, has_room, is_shallow, is_small, next_id, not_stored, nothing, on_table, or_else, reserved, start, table_now, tables_now, told_depth, unless}
pub use Rattle.ledger_model.specs.Redacting.{redacting}
pub use Rattle.ledger_model.specs.SchemaChanges.{active_count, created, created_count, dropped, existing, indexed, new_table, no_table_more}
pub use Rattle.ledger_model.specs.Selecting.{absent_table, first_absent, rows_in, selected, views_of}
pub use Rattle.ledger_model.specs.Statements.{table_in}

-- ---- statements

-- but for what it reads
abbrev pub done_by_statement : Begun → State → Progress → List Value → Statement → Result Effect Refusal
done_by_statement b s p params (statement.Create name) = created b s p name
done_by_statement b s p params (statement.Index name field) = indexed s p name field
done_by_statement b s p params (statement.Drop name) = dropped s p name
done_by_statement b s p params (statement.Insert name e) = inserted b s p params name e
done_by_statement b s p params (statement.Select select from) = selected s p params select from
done_by_statement b s p params (statement.Update from change) = changed s p params from change
done_by_statement b s p params (statement.From from change) = changed s p params from change
done_by_statement b s p params (statement.Delete from) = deleted s p params from
done_by_statement b s p params (statement.Redact address table document) = redacting s p params address table document

-- the tables and the fields with an index as the transaction has changed them so far
abbrev pub schemas_now : State → Progress → Schemas
schemas_now s p = record { tables = tables_now s p; indexes = all_indexed s.indexes p.schema }

-- a statement that is refused reads nothing
abbrev pub reading : List Item → Result Effect Refusal → Result Effect Refusal
reading items (Err cause) = Err cause
reading items (Ok e) = Ok (record e { footprint = items })

abbrev pub effect_of : Begun → State → Progress → List Value → Statement → Result Effect Refusal
effect_of b s p params st =
    reading (footprint_of (schemas_now s p) (views_of s p) params st) (done_by_statement b s p params st)

abbrev pub if_read : (Statement → Result Effect Refusal) → Result Statement Refusal → Result Effect Refusal
if_read f (Ok st) = f st
if_read f (Err cause) = Err cause

-- where no parameter is too deep
abbrev pub if_shallow : Option ℕ → Result Effect Refusal → Result Effect Refusal
if_shallow None effect = effect
if_shallow (Some depth) effect = Err (TooDeep depth)

-- the statement, said, and what it added
abbrev pub recorded : Progress → Request → Result Effect Refusal → Result Progress Refusal
recorded p r (Err cause) = Err cause
recorded p r (Ok e) =
    Ok (record (changed_by p e) {
      said = p.said
          ++ record { text = r.text; params = r.params; answer = record { rows = e.rows } } ∷ [];
    })

-- one statement: what it does, or why it is refused
abbrev pub step : Begun → State → Progress → Request → Result Progress Refusal
step b s p r =
    recorded p r (if_read (λ st. if_shallow (first_deep r.params) (effect_of b s p r.params st)) (statement_of r))

-- how a transaction's statements end: all were done, or this one was refused, counted from 1
pub data Ran : Type 0 where
  ran : Progress → Ran
  refused : (statement : ℕ) (cause : Refusal) → Ran

abbrev pub then_run : ℕ → Result Progress Refusal → (Progress → Ran) → Ran
then_run j (Err cause) rest = refused j cause
then_run j (Ok p) rest = rest p

abbrev pub run_from : Begun → State → ℕ → Progress → List Request → Ran
run_from b s j p [] = ran p
run_from b s j p (r ∷ rs) = then_run j (step b s p r) (λ q. run_from b s (j + 1) q rs)

-- the whole transaction
abbrev pub run : Begun → State → List Request → Ran
run b s asked = run_from b s 1 start asked

-- a revision is left of each document that was touched but of a new one that was deleted again
abbrev pub is_left : Draft → Bool
is_left d = not ((d.version == 0) && not (is_kept d.content))

-- each with its document's final content, in order of first touch
abbrev pub left_of : List Draft → List Draft
left_of log = filter is_left (latest log)

abbrev pub final_revisions : Progress → List Draft
final_revisions p = left_of p.log
