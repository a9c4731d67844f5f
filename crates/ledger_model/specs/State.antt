-- The state after a list of blocks: all revisions in block order, each with its table; all tables in the order in which
-- they were made; and all fields with an index. A revision that a block redacts has its data's hash in place of them; a
-- document's latest revision is never redacted.
use Rattle.std.specs.Prelude.{ℕ, ◌==◌, ◌&&◌, Bool, true, false, List, [], ◌∷◌, ◌++◌, map, Option, Some, None, if◌then◌else◌}
use Rattle.std.specs.List.{list_any}
use Rattle.std.specs.Str.{bytes_eq}
use Rattle.hash_model.specs.Serialize.{hash_of}
use Rattle.ql_types.specs.declared.BlockAddress.{BlockAddress}
use Rattle.ql_types.specs.declared.DocId.{DocId}
use Rattle.ql_types.specs.declared.TableId.{TableId}
use Rattle.ledger_model.specs.declared.block.Draft.{Draft}
use Rattle.ledger_model.specs.declared.block.Revision.{Revision}
use Rattle.ledger_model.specs.declared.block.Block.{Block}
use Rattle.ledger_model.specs.declared.block.Content.{Content}
use Rattle.ledger_model.specs.declared.block.Content.TheVariants.{Deleted, Kept, Redacted}
use Rattle.ledger_model.specs.declared.block.Schema.{Schema}
use Rattle.ledger_model.specs.declared.block.Schema.TheVariants.{Create, Index, Drop, Redact}

pub record Table : Type 0 where
  pub name : List ℕ
  pub id : TableId
  pub active : Bool

pub record Indexed : Type 0 where
  pub table : TableId
  pub field : List ℕ

-- a revision of a document of this table
pub record Recorded : Type 0 where
  pub table : TableId
  pub revision : Revision

pub record State : Type 0 where
  pub revisions : List Recorded
  pub tables : List Table
  pub indexes : List Indexed

-- the table is active no more
abbrev pub dropped : TableId → Table → Table
dropped id t = record t { active = if t.id.raw == id.raw then false else t.active }

-- the tables after a change of the schema
abbrev pub changed : List Table → Schema → List Table
changed tables (Create name id) = tables ++ record { name = name; id = id; active = true } ∷ []
changed tables (Index field id) = tables
changed tables (Drop name id) = map (dropped id) tables
changed tables (Redact address id document) = tables

abbrev pub all_changed : List Table → List Schema → List Table
all_changed tables [] = tables
all_changed tables (c ∷ cs) = all_changed (changed tables c) cs

-- the fields with an index after a change of the schema
abbrev pub indexed : List Indexed → Schema → List Indexed
indexed indexes (Index field id) = indexes ++ record { table = id; field = field } ∷ []
indexed indexes _ = indexes

abbrev pub all_indexed : List Indexed → List Schema → List Indexed
all_indexed indexes [] = indexes
all_indexed indexes (c ∷ cs) = all_indexed (indexed indexes c) cs

-- revisions with their tables, in order
abbrev pub recorded_in : List TableId → List Revision → List Recorded
recorded_in (t ∷ ts) (r ∷ rs) = record { table = t; revision = r } ∷ recorded_in ts rs
recorded_in _ _ = []

-- the revision without what its block gave it
abbrev pub draft_of : Recorded → Draft
draft_of r = record {
  table = r.table;
  id = r.revision.metadata.id;
  version = r.revision.metadata.version;
  content = r.revision.content;
}

-- ---- redactions

abbrev pub is_redact : Schema → Bool
is_redact (Redact address table document) = true
is_redact _ = false

abbrev pub same_address : BlockAddress → BlockAddress → Bool
same_address a b = (a.strand.raw == b.strand.raw) && (a.sequence == b.sequence)

-- the change redacts the revision of a document of this table in the block at this address
abbrev pub names_revision : BlockAddress → TableId → DocId → Schema → Bool
names_revision address table id (Redact a t d) = same_address address a && (table.raw == t.raw) && (id.raw == d.raw)
names_revision address table id _ = false

abbrev pub redacts : Recorded → Schema → Bool
redacts r c = names_revision r.revision.address r.table r.revision.metadata.id c

-- one of the changes redacts it
abbrev pub is_redacted_by : List Schema → Recorded → Bool
is_redacted_by changes r = list_any (redacts r) changes

-- the data's hash in place of the data; a delete has none
abbrev pub hashed : Content → Content
hashed Deleted = Deleted
hashed (Kept v) = Redacted (hash_of v)
hashed (Redacted hash) = Redacted hash

-- a revision of the same document is among these
abbrev pub is_revised : List Recorded → Recorded → Bool
is_revised later r = list_any (λ x. x.revision.metadata.id.raw == r.revision.metadata.id.raw) later

-- the revision after changes, in front of later ones
abbrev pub revision_after : List Schema → List Recorded → Recorded → Recorded
revision_after changes later r = record r {
  revision = record r.revision {
    content = if is_redacted_by changes r && is_revised later r then hashed r.revision.content else r.revision.content;
  };
}

abbrev pub revisions_after : List Schema → List Recorded → List Recorded
revisions_after changes [] = []
revisions_after changes (r ∷ later) = revision_after changes later r ∷ revisions_after changes later

-- the state after a block's redactions, which are of revisions of earlier blocks
abbrev pub redacted : List Schema → State → State
redacted changes s = record s { revisions = revisions_after changes s.revisions }

-- ---- blocks

-- the state with a block's own revisions, tables and indexes
abbrev pub extended : State → Block → State
extended s b = record {
  revisions = s.revisions ++ recorded_in b.info.tables b.revisions;
  tables = all_changed s.tables b.info.schema;
  indexes = all_indexed s.indexes b.info.schema;
}

-- the state after one block more
abbrev pub after : State → Block → State
after s b = extended (redacted b.info.schema s) b

abbrev pub empty : State
empty = record { revisions = []; tables = []; indexes = [] }

abbrev pub state_from : State → List Block → State
state_from s [] = s
state_from s (b ∷ bs) = state_from (after s b) bs

abbrev pub state : List Block → State
state blocks = state_from empty blocks

-- the active table of a name
abbrev pub active_table : List Table → List ℕ → Option TableId
active_table [] name = None
active_table (t ∷ ts) name = if t.active && bytes_eq t.name name then Some t.id else active_table ts name
