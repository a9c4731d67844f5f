-- What CREATE TABLE, CREATE INDEX and DROP TABLE do to a transaction (Amazon QLDB's PartiQL; refusals and their order
-- are the ledger's own). Each is answered by the table's id.
use Rattle.std.specs.Prelude.{ℕ, ◌+◌, ◌==◌, nat_le, List, [], ◌∷◌, length, codes, Option, Some, None, Result, Ok, if◌then◌else◌}
use Rattle.std.specs.List.{filter}
use Rattle.ql_types.specs.declared.TableId.{TableId}
use Rattle.ledger_model.specs.declared.block.Schema.{Schema}
use Rattle.ledger_model.specs.declared.block.Schema.TheVariants.{Create, Index, Drop}
use Rattle.ledger_model.specs.declared.outcome.Refusal.{Refusal}
use Rattle.ledger_model.specs.declared.outcome.Refusal.TheVariants.{TableExists, TooManyTables, IndexExists, TooManyIndexes}
use Rattle.ledger_model.specs.Follows.{has_index}
use Rattle.ledger_model.specs.Progress.{Begun, Progress, Effect, next_id, on_table, reserved, table_now, tables_now, unless}
use Rattle.ledger_model.specs.State.{Indexed, State, Table, all_indexed}
use Rattle.ledger_model.specs.Values.{named_id}

-- ---- CREATE TABLE

-- how many tables are active
abbrev pub active_count : List Table → ℕ
active_count [] = 0
active_count (t ∷ ts) = (if t.active then 1 else 0) + active_count ts

-- how many tables the changes create
abbrev pub created_count : List Schema → ℕ
created_count [] = 0
created_count (Create name id ∷ cs) = 1 + created_count cs
created_count (c ∷ cs) = created_count cs

-- why no table more is created: 20 are active, or the transaction has created 20
abbrev pub no_table_more : List Table → List Schema → Option Refusal
no_table_more tables changes =
    if nat_le 20 (active_count tables) then Some (TooManyTables (active_count tables))
    else if nat_le 20 (created_count changes) then Some (TooManyTables 20)
    else None

abbrev pub existing : List ℕ → Option TableId → Option Refusal
existing name None = None
existing name (Some there) = Some (TableExists name)

abbrev pub new_table : ℕ → List ℕ → Effect
new_table id name = record {
  rows = named_id (codes "tableId") id ∷ [];
  schema = Create name (record { raw = id }) ∷ [];
  log = [];
  made = 1;
  footprint = [];
}

abbrev pub created : Begun → State → Progress → List ℕ → Result Effect Refusal
created b s p name =
    unless (reserved name) (unless (existing name (table_now s p name))
    (unless (no_table_more (tables_now s p) p.schema) (Ok (new_table (next_id b p) name))))

-- ---- of a table that is there

-- a change of the schema of this table, which is answered by its id
abbrev pub schema_change : TableId → Schema → Effect
schema_change table c = record {
  rows = named_id (codes "tableId") table.raw ∷ [];
  schema = c ∷ [];
  log = [];
  made = 0;
  footprint = [];
}

-- ---- CREATE INDEX

-- the fields with an index as the transaction has changed them so far
abbrev pub indexes_now : State → Progress → List Indexed
indexes_now s p = all_indexed s.indexes p.schema

abbrev pub existing_index : List Indexed → List ℕ → List ℕ → TableId → Option Refusal
existing_index indexes name field table = if has_index indexes table field then Some (IndexExists name field) else None

-- how many fields of a table have an index
abbrev pub index_count : List Indexed → TableId → ℕ
index_count indexes table = length (filter (λ (i : Indexed). i.table.raw == table.raw) indexes)

-- a table has at most 5
abbrev pub no_index_more : List Indexed → TableId → Option Refusal
no_index_more indexes table =
    if nat_le 5 (index_count indexes table) then Some (TooManyIndexes (index_count indexes table)) else None

abbrev pub indexed : State → Progress → List ℕ → List ℕ → Result Effect Refusal
indexed s p name field =
    unless (reserved name) (on_table name (table_now s p name) (λ table.
    unless (existing_index (indexes_now s p) name field table) (unless (no_index_more (indexes_now s p) table)
    (Ok (schema_change table (Index field table))))))

-- ---- DROP TABLE

abbrev pub dropped : State → Progress → List ℕ → Result Effect Refusal
dropped s p name =
    unless (reserved name) (on_table name (table_now s p name) (λ table. Ok (schema_change table (Drop name table))))
