-- What a transaction's statements have done so far, what one of them does, and the limits that they keep (the ledger's
-- own).
use Rattle.std.specs.Prelude.{ℕ, ◌+◌, ◌-◌, ◌^◌, min, not, Bool, nat_le, nat_lt, List, [], ◌∷◌, ◌++◌, length, Option, Some, None, Result, Ok, Err, if◌then◌else◌}
use Rattle.ion_values.specs.declared.value.Value.{Value}
use Rattle.ion_values.specs.declared.value.Body.{out-Body}
use Rattle.ion_values.specs.Depth.{depth_of}
use Rattle.ion_model.specs.Write.{value_text}
use Rattle.ql_types.specs.Ids.{raw_id}
use Rattle.ql_types.specs.declared.TableId.{TableId}
use Rattle.ledger_model.specs.declared.block.Said.{Said}
use Rattle.ledger_model.specs.declared.block.Schema.{Schema}
use Rattle.ledger_model.specs.declared.block.Draft.{Draft}
use Rattle.ledger_model.specs.declared.outcome.Item.{Item}
use Rattle.ledger_model.specs.declared.outcome.Refusal.{Refusal}
use Rattle.ledger_model.specs.declared.outcome.Refusal.TheVariants.{NoSuchTable, ReservedName, TooManyRevisions, DocumentTooLarge, NotADocument, TooDeep}
use Rattle.ledger_model.specs.State.{State, Table, all_changed, active_table}
use Rattle.ledger_model.specs.Statements.{is_reserved}
use Rattle.ledger_model.specs.Values.{kind_of, is_struct}
use Rattle.ledger_model.specs.Views.{latest}

-- the mask of the journal's ids and the number of the transaction
pub record Begun : Type 0 where
  pub mask : ℕ
  pub number : ℕ

-- what a transaction's statements have done so far: what was said, the changes of the schema, the pending
-- revisions in order, how many ids were made, and what was read, statement by statement, repeats kept
pub record Progress : Type 0 where
  pub said : List Said
  pub schema : List Schema
  pub log : List Draft
  pub made : ℕ
  pub footprint : List Item

abbrev pub start : Progress
start = record { said = []; schema = []; log = []; made = 0; footprint = [] }

-- what one statement does: its answer, what it adds, and what it reads
pub record Effect : Type 0 where
  pub rows : List Value
  pub schema : List Schema
  pub log : List Draft
  pub made : ℕ
  pub footprint : List Item

-- the number of the next id
abbrev pub next_id : Begun → Progress → ℕ
next_id b p = raw_id b.mask b.number (p.made + 1)

-- ---- limits

-- a value nests at most 64 deep
abbrev pub is_shallow : Value → Bool
is_shallow v = nat_le (depth_of v) 64

-- a depth as it is told, 2^32 - 1 where it is more
abbrev pub told_depth : Value → ℕ
told_depth v = min (depth_of v) (2 ^ 32 - 1)

-- the depth of the first value that nests deeper
abbrev pub first_deep : List Value → Option ℕ
first_deep [] = None
first_deep (v ∷ vs) = if is_shallow v then first_deep vs else Some (told_depth v)

-- a document's text has at most 131,072 bytes
abbrev pub is_small : Value → Bool
is_small v = nat_le (length (value_text v)) 131072

-- a transaction touches at most 40 documents
abbrev pub has_room : Progress → Bool
has_room p = nat_lt (length (latest p.log)) 40

-- why a value isn't stored as a document's content, by whether there is room for one document more
abbrev pub not_kept : Bool → Value → Option Refusal
not_kept room v =
    if not (is_struct (out-Body v.body)) then Some (NotADocument (kind_of (out-Body v.body)))
    else if not (is_shallow v) then Some (TooDeep (told_depth v))
    else if not (is_small v) then Some (DocumentTooLarge (length (value_text v)))
    else if not room then Some (TooManyRevisions 41)
    else None

-- why a value isn't stored as one document more
abbrev pub not_stored : Progress → Value → Option Refusal
not_stored p v = not_kept (has_room p) v

-- ---- parts of statements

-- the first of two causes
abbrev pub or_else : Option Refusal → Option Refusal → Option Refusal
or_else None cause = cause
or_else (Some first) cause = Some first

-- the statement's effect, where no cause stands against it
abbrev pub unless : Option Refusal → Result Effect Refusal → Result Effect Refusal
unless None effect = effect
unless (Some cause) effect = Err cause

abbrev pub nothing : Effect
nothing = record { rows = []; schema = []; log = []; made = 0; footprint = [] }

-- one effect and then another
abbrev pub and_then : Effect → Result Effect Refusal → Result Effect Refusal
and_then e (Err cause) = Err cause
and_then e (Ok f) = Ok (record {
  rows = e.rows ++ f.rows;
  schema = e.schema ++ f.schema;
  log = e.log ++ f.log;
  made = e.made + f.made;
  footprint = e.footprint ++ f.footprint;
})

-- the progress with an effect more, before it is said
abbrev pub changed_by : Progress → Effect → Progress
changed_by p e = record {
  said = p.said;
  schema = p.schema ++ e.schema;
  log = p.log ++ e.log;
  made = p.made + e.made;
  footprint = p.footprint ++ e.footprint;
}

-- the tables as the transaction has changed them so far
abbrev pub tables_now : State → Progress → List Table
tables_now s p = all_changed s.tables p.schema

-- the active table of a name, the transaction's own changes counted
abbrev pub table_now : State → Progress → List ℕ → Option TableId
table_now s p name = active_table (tables_now s p) name

abbrev pub reserved : List ℕ → Option Refusal
reserved name = if is_reserved name then Some (ReservedName name) else None

-- what is done with the table of a name
abbrev pub on_table : List ℕ → Option TableId → (TableId → Result Effect Refusal) → Result Effect Refusal
on_table name None f = Err (NoSuchTable name)
on_table name (Some table) f = f table
