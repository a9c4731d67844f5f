-- When a block follows a state: what its transaction did to tables, indexes and documents can be done where the blocks
-- before left them. The changes of the schema are taken in their order.
use Rattle.std.specs.Prelude.{ℕ, ◌+◌, ◌==◌, ◌&&◌, ◌||◌, not, Bool, true, false, nat_le, List, [], ◌∷◌, ◌++◌, map, is_none, Option, Some, None, if◌then◌else◌}
use Rattle.std.specs.List.{list_all, list_any, filter, find}
use Rattle.std.specs.Option.{option_map_or}
use Rattle.std.specs.Str.{bytes_eq}
use Rattle.ion_values.specs.Equivalent.{same_time}
use Rattle.ql_types.specs.Ids.{transaction_in, thing_in}
use Rattle.ql_types.specs.declared.BlockAddress.{BlockAddress}
use Rattle.ql_types.specs.declared.DocId.{DocId}
use Rattle.ql_types.specs.declared.TableId.{TableId}
use Rattle.ledger_model.specs.declared.block.Content.{Content}
use Rattle.ledger_model.specs.declared.block.Content.TheVariants.{Deleted, Kept, Redacted}
use Rattle.ledger_model.specs.declared.block.Schema.{Schema}
use Rattle.ledger_model.specs.declared.block.Schema.TheVariants.{Create, Index, Drop, Redact}
use Rattle.ledger_model.specs.declared.block.Revision.{Revision}
use Rattle.ledger_model.specs.declared.block.Header.{Header}
use Rattle.ledger_model.specs.declared.block.Block.{Block}
use Rattle.ledger_model.specs.Script.{or_else}
use Rattle.ledger_model.specs.State.{State, Table, Indexed, Recorded, changed, indexed, active_table, is_redact, is_redacted_by, recorded_in, redacts, state}
pub use Rattle.ledger_model.specs.State.{same_address}

-- ---- the schema

abbrev pub is_active : List Table → TableId → Bool
is_active tables id = list_any (λ t. t.active && (t.id.raw == id.raw)) tables

abbrev pub has_index : List Indexed → TableId → List ℕ → Bool
has_index indexes id field = list_any (λ i. (i.table.raw == id.raw) && bytes_eq i.field field) indexes

-- the active table of this name has this id
abbrev pub is_named : List Table → List ℕ → TableId → Bool
is_named tables name id = option_map_or (λ t. t.raw == id.raw) (active_table tables name) false

-- a new table has a name that isn't active, an index is on an active table's field without one, and a table is dropped
-- by its name and id; a redaction changes no table
abbrev pub change_follows : List Table → List Indexed → Schema → Bool
change_follows tables indexes (Create name id) = is_none (active_table tables name)
change_follows tables indexes (Index field id) = is_active tables id && not (has_index indexes id field)
change_follows tables indexes (Drop name id) = is_named tables name id
change_follows tables indexes (Redact address id document) = true

abbrev pub schema_follows : List Table → List Indexed → List Schema → Bool
schema_follows tables indexes [] = true
schema_follows tables indexes (c ∷ cs) =
    change_follows tables indexes c && schema_follows (changed tables c) (indexed indexes c) cs

-- ---- new ids

-- the id of the table that a change creates
abbrev pub created_id : Schema → List ℕ
created_id (Create name id) = id.raw ∷ []
created_id _ = []

abbrev pub created_ids : List Schema → List ℕ
created_ids [] = []
created_ids (c ∷ cs) = created_id c ++ created_ids cs

abbrev pub document_ids : List Revision → List ℕ
document_ids revisions = map (λ r. r.metadata.id.raw) revisions

-- the last revision of a document
abbrev pub latest_of : List Recorded → ℕ → Option Recorded
latest_of [] id = None
latest_of (r ∷ rs) id = or_else (latest_of rs id) (if r.revision.metadata.id.raw == id then Some r else None)

abbrev pub is_new : List Recorded → ℕ → Bool
is_new revisions id = is_none (latest_of revisions id)

-- the ids that the block gives to the tables and documents that it makes
abbrev pub made_ids : State → Block → List ℕ
made_ids s b = created_ids b.info.schema ++ filter (is_new s.revisions) (document_ids b.revisions)

-- the transaction `n` made the thing of this id
abbrev pub is_made_by : ℕ → ℕ → ℕ → Bool
is_made_by mask n id = (transaction_in mask id == n) && nat_le 1 (thing_in mask id)

abbrev pub all_differ : List ℕ → Bool
all_differ [] = true
all_differ (x ∷ xs) = not (list_any (λ y. x == y) xs) && all_differ xs

abbrev pub ids_follow : ℕ → List ℕ → ℕ → Bool
ids_follow mask ids tx = list_all (is_made_by mask (transaction_in mask tx)) ids && all_differ ids

-- ---- revisions

-- the revision has its block's address, time and transaction
abbrev pub is_of : Header → Revision → Bool
is_of h r = same_address r.address h.address && same_time r.metadata.time h.time && (r.metadata.tx.raw == h.tx.raw)

-- its table is active before the block or created in it
abbrev pub has_table : List Table → List ℕ → TableId → Bool
has_table tables created t = is_active tables t || list_any (λ id. id == t.raw) created

-- not deleted
abbrev pub is_kept : Content → Bool
is_kept Deleted = false
is_kept (Kept v) = true
is_kept (Redacted hash) = true

-- a new document has version 0 and content or its hash; another one has its own table and the next version, and isn't
-- deleted
abbrev pub continues : Recorded → Option Recorded → Bool
continues r None = (r.revision.metadata.version == 0) && is_kept r.revision.content
continues r (Some last) =
    (r.table.raw == last.table.raw) && (r.revision.metadata.version == last.revision.metadata.version + 1)
    && is_kept last.revision.content

abbrev pub revision_follows : State → Block → Recorded → Bool
revision_follows s b r =
    is_of b.header r.revision && has_table s.tables (created_ids b.info.schema) r.table
    && continues r (latest_of s.revisions r.revision.metadata.id.raw)

-- ---- redactions

-- the revision that a redaction names
abbrev pub named_by : List Recorded → Schema → Option Recorded
named_by revisions c = find (λ r. redacts r c) revisions

-- the document's latest revision is in the block at this address
abbrev pub is_latest_at : List Recorded → BlockAddress → DocId → Bool
is_latest_at revisions address id =
    option_map_or (λ last. same_address last.revision.address address) (latest_of revisions id.raw) false

-- it is its document's latest
abbrev pub is_latest : List Recorded → Recorded → Bool
is_latest revisions r = is_latest_at revisions r.revision.address r.revision.metadata.id

-- one of the blocks redacts it
abbrev pub is_redacted_in : List Block → Recorded → Bool
is_redacted_in blocks r = list_any (λ b. is_redacted_by b.info.schema r) blocks

-- it isn't its document's latest, and nothing before redacts it
abbrev pub can_be_redacted : List Block → List Recorded → List Schema → Recorded → Bool
can_be_redacted before revisions earlier r =
    not (is_latest revisions r) && not (is_redacted_in before r) && not (is_redacted_by earlier r)

-- a redaction names a revision of an earlier block that can be redacted
abbrev pub redaction_follows : List Block → List Recorded → List Schema → Schema → Bool
redaction_follows before revisions earlier c =
    not (is_redact c)
    || option_map_or (can_be_redacted before revisions earlier) (named_by revisions c) false

-- each change behind the earlier ones of its block
abbrev pub redactions_follow : List Block → List Recorded → List Schema → List Schema → Bool
redactions_follow before revisions earlier [] = true
redactions_follow before revisions earlier (c ∷ cs) =
    redaction_follows before revisions earlier c && redactions_follow before revisions (earlier ++ c ∷ []) cs

-- ---- the block

-- all but its redactions follows the state; no second revision of a document stands in it
abbrev pub follows : ℕ → State → Block → Bool
follows mask s b =
    schema_follows s.tables s.indexes b.info.schema && ids_follow mask (made_ids s b) b.header.tx.raw
    && list_all (revision_follows s b) (recorded_in b.info.tables b.revisions) && all_differ (document_ids b.revisions)

-- all of it follows these blocks
abbrev pub follows_blocks : ℕ → List Block → Block → Bool
follows_blocks mask before b =
    follows mask (state before) b && redactions_follow before (state before).revisions [] b.info.schema
