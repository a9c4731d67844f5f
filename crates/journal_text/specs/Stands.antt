-- What a registry holds of the blocks of a journal so far: their transactions, the active tables by name and by id,
-- the fields with an index, of each document the latest revision, and what is redacted, as the ledger's journal
-- format checks them.
use Rattle.std.specs.Prelude.{◌≡◌, ℕ, ◌+◌, ◌==◌, ◌&&◌, ◌||◌, not, Bool, true, false, List, [], ◌∷◌, ◌++◌, map, slice_get, is_none, string_bytes}
use Rattle.std.specs.List.{list_all, list_any}
use Rattle.std.specs.Option.{option_map, option_map_or}
use Rattle.std.specs.Ordering.{nat_cmp, ordering_then}
use Rattle.std.specs.Cmp.Lexicographic.{slice_cmp}
use Rattle.std.specs.BTreeMap.{get, get_by_text}
use Rattle.std.specs.BTreeSet.{BTreeSet, contains, contains_by}
use Rattle.ql_types.specs.Ids.{raw_id, transaction_in}
use Rattle.ql_types.specs.declared.BlockAddress.{BlockAddress}
use Rattle.ql_types.specs.declared.DocId.{DocId}
use Rattle.ql_types.specs.declared.TableId.{TableId}
use Rattle.ledger_model.specs.declared.block.Block.{Block}
use Rattle.ledger_model.specs.declared.block.Schema.{Schema}
use Rattle.ledger_model.specs.declared.block.Schema.TheVariants.{Redact}
use Rattle.ledger_model.specs.State.{Table, Indexed, Recorded, active_table, all_changed, all_indexed, changed, indexed, names_revision, recorded_in, redacts, state}
use Rattle.ledger_model.specs.Follows.{all_differ, change_follows, has_index, is_active, is_kept, latest_of, redaction_follows, redactions_follow, schema_follows}
use Rattle.journal_text.specs.declared.registry.Registry.{Registry}
use Rattle.journal_text.specs.declared.registry.tables.Tables.{Tables}
use Rattle.journal_text.specs.declared.registry.documents.Documents.{Documents}
use Rattle.journal_text.specs.declared.registry.documents.Latest.{Latest}
use Rattle.journal_text.specs.declared.registry.redactions.Redactions.{Redactions}

-- ---- transactions

-- a block so far has this transaction
abbrev pub has_transaction : List Block → ℕ → Bool
has_transaction before tx = list_any (λ earlier. earlier.header.tx.raw == tx) before

-- the id of the transaction that made the thing of this id
abbrev pub maker : ℕ → ℕ → ℕ
maker strand id = raw_id strand (transaction_in strand id) 0

-- ---- tables

abbrev pub table_ids : List Table → List ℕ
table_ids tables = map (λ t. t.id.raw) tables

-- no two active tables have one name
abbrev pub names_differ : List Table → Bool
names_differ [] = true
names_differ (t ∷ ts) = (not t.active || is_none (active_table ts t.name)) && names_differ ts

-- the field of this table has an index
abbrev pub has_field : Tables → ℕ → List ℕ → Bool
has_field r id field =
    contains_by (λ k. ordering_then (nat_cmp id k.0) (slice_cmp nat_cmp field (string_bytes k.1))) r.indexes

pub record TablesStand (tables : List Table) (indexes : List Indexed) (r : Tables) : Type 0 where
  pub names : (name : List ℕ) → get_by_text r.names name ≡ active_table tables name
  pub active : (id : ℕ) → contains nat_cmp r.active id ≡ is_active tables (record { raw = id })
  pub fields : (id : ℕ) (field : List ℕ) → has_field r id field ≡ has_index indexes (record { raw = id }) field
  pub differ : names_differ tables ≡ true

-- the answer tells whether the change can be made, and it is made if so
pub record Changes (tables : List Table) (indexes : List Indexed) (c : Schema) (answer : Bool)
    (r : Tables) : Type 0 where
  pub tells : answer ≡ change_follows tables indexes c
  pub made : answer ≡ true → TablesStand (changed tables c) (indexed indexes c) r

-- the same of changes in order
pub record AllChange (tables : List Table) (indexes : List Indexed) (schema : List Schema) (answer : Bool)
    (r : Tables) : Type 0 where
  pub tells : answer ≡ schema_follows tables indexes schema
  pub made : answer ≡ true → TablesStand (all_changed tables schema) (all_indexed indexes schema) r

-- ---- documents

abbrev pub latest_from : Recorded → Latest
latest_from r = record {
  address = r.revision.address;
  table = r.table;
  version = r.revision.metadata.version;
  is_kept = is_kept r.revision.content;
}

abbrev pub DocumentsStand : List Recorded → Documents → Type 0
DocumentsStand revisions r = (id : ℕ) → get nat_cmp r.latest id ≡ option_map latest_from (latest_of revisions id)

-- ---- redactions

-- the blocks, counted on from n, have revisions of their own places
abbrev pub are_placed : ℕ → List Block → Bool
are_placed n [] = true
are_placed n (b ∷ bs) =
    list_all (λ r. r.revision.address.sequence == n) (recorded_in b.info.tables b.revisions) && are_placed (n + 1) bs

abbrev pub has_in : Schema → Block → Bool
has_in c b = list_any (λ r. redacts r c) (recorded_in b.info.tables b.revisions)

-- the block at the place that a redaction names has the revision
abbrev pub has_named : List Block → Schema → Bool
has_named before (Redact address table document) =
    option_map_or (has_in (Redact address table document)) (slice_get before address.sequence) false
has_named before _ = false

-- the revision is redacted
abbrev pub has_redaction : Redactions → BlockAddress → TableId → DocId → Bool
has_redaction r a t d =
    contains_by (λ k. ordering_then (ordering_then (ordering_then (nat_cmp a.strand.raw k.0) (nat_cmp a.sequence k.1))
    (nat_cmp t.raw k.2)) (nat_cmp d.raw k.3)) r.revisions

-- what these blocks redact, and then these changes
abbrev pub RedactionsStand : List Block → List Schema → Redactions → Type 0
RedactionsStand before earlier r =
    (a : BlockAddress) (t : TableId) (d : DocId) → has_redaction r a t d
    ≡ (list_any (λ b. list_any (names_revision a t d) b.info.schema) before || list_any (names_revision a t d) earlier)

-- the answer tells whether the change follows as far as it is a redaction, and it is taken in if so
pub record IsTaken (before : List Block) (earlier : List Schema) (c : Schema) (answer : Bool)
    (r : Redactions) : Type 0 where
  pub tells : answer ≡ redaction_follows before (state before).revisions earlier c
  pub stands : answer ≡ true → RedactionsStand before (earlier ++ c ∷ []) r

-- the same of a block's changes in order
pub record AreTaken (before : List Block) (schema : List Schema) (answer : Bool) (r : Redactions) : Type 0 where
  pub tells : answer ≡ redactions_follow before (state before).revisions [] schema
  pub stands : answer ≡ true → RedactionsStand before schema r

-- ---- all of it

-- the set has these numbers and no other
abbrev pub HasKeys : BTreeSet ℕ → List ℕ → Type 0
HasKeys set numbers = (n : ℕ) → contains nat_cmp set n ≡ list_any (λ m. m == n) numbers

pub record Stands (strand : ℕ) (before : List Block) (r : Registry) : Type 0 where
  pub transactions : (tx : ℕ) → contains nat_cmp r.transactions tx ≡ has_transaction before tx
  pub tables : TablesStand (state before).tables (state before).indexes r.tables
  pub documents : DocumentsStand (state before).revisions r.documents
  pub redactions : RedactionsStand before [] r.redactions
  pub placed : are_placed 0 before ≡ true
  -- no two tables have one id
  pub ids : all_differ (table_ids (state before).tables) ≡ true
  -- each table was made by a transaction of these blocks
  pub makers : list_all (λ id. has_transaction before (maker strand id)) (table_ids (state before).tables) ≡ true
