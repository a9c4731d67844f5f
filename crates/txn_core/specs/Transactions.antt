-- What the statements of a transaction ask of it: the id of a thing that it makes, and its tables.
use Rattle.std.specs.Prelude.{ℕ, ◌+◌, List, Option, Some, None, Result, Ok, Err}
use Rattle.ql_types.specs.Ids.{raw_id}
use Rattle.ql_types.specs.declared.TableId.{TableId}
use Rattle.ledger_model.specs.declared.block.Schema.{Schema}
use Rattle.ledger_model.specs.declared.outcome.Refusal.{Refusal}
use Rattle.ledger_model.specs.declared.outcome.Refusal.TheVariants.{NoSuchTable}
use Rattle.ledger_model.specs.Script.{or_else}
use Rattle.ledger_model.specs.SchemaChanges.{existing_index, no_index_more}
use Rattle.ledger_model.specs.State as state
use Rattle.ledger_model.specs.State.{active_table}
use Rattle.ledger_model.specs.Run.{existing, no_table_more, reserved}
use Rattle.txn_core.specs.Opened.{Opened}

-- the next id after a number of further ones
abbrev pub id_after : Opened → ℕ → ℕ
id_after t more = raw_id t.begun.mask t.begun.number ((t.done.made + more) + 1)

-- the table that a statement names, if there is one
abbrev pub found : List ℕ → Option TableId → Result TableId Refusal
found name (Some table) = Ok table
found name None = Err (NoSuchTable name)

-- the same where the name may be one that no statement changes
abbrev pub found_unless : Option Refusal → List ℕ → Option TableId → Result TableId Refusal
found_unless None name table = found name table
found_unless (Some cause) name table = Err cause

-- why no index on this field of the table is made
abbrev pub not_indexed : List state.Indexed → List ℕ → List ℕ → TableId → Option Refusal
not_indexed indexes name field table = or_else (existing_index indexes name field table) (no_index_more indexes table)

-- why no table of this name is created
abbrev pub not_created : List state.Table → List Schema → List ℕ → Option Refusal
not_created tables changes name =
    or_else (reserved name) (or_else (existing name (active_table tables name)) (no_table_more tables changes))
