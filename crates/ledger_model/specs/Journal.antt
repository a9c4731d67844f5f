-- Blocks as Ion values, and the lines of a journal.
use Rattle.std.specs.Prelude.{ℕ, pos, List, [], ◌∷◌, ◌++◌, map, codes}
use Rattle.std.specs.List.{flat_map}
use Rattle.ion_values.specs.declared.value.Value.{Value}
use Rattle.ion_values.specs.declared.value.Field.{Field}
use Rattle.ion_values.specs.declared.value.Body.TheVariants as body
use Rattle.ion_values.specs.declared.time.TimeParts.{TimeParts}
use Rattle.ion_model.specs.Write.{value_text}
use Rattle.ql_types.specs.Ids.{id_text}
use Rattle.ql_types.specs.declared.Hash32.{Hash32}
use Rattle.ql_types.specs.declared.Hash.{Hash}
use Rattle.ql_types.specs.declared.Hash.TheVariants.{Empty, Full}
use Rattle.ql_types.specs.declared.DocId.{DocId}
use Rattle.ql_types.specs.declared.Place.{Place}
use Rattle.ql_types.specs.declared.TableId.{TableId}
use Rattle.ql_types.specs.declared.BlockAddress.{BlockAddress}
use Rattle.ledger_model.specs.declared.block.Said.{Said}
use Rattle.ledger_model.specs.declared.block.Schema.{Schema}
use Rattle.ledger_model.specs.declared.block.Schema.TheVariants.{Create, Index, Drop, Redact}
use Rattle.ledger_model.specs.declared.block.Content.{Content}
use Rattle.ledger_model.specs.declared.block.Content.TheVariants.{Deleted, Kept, Redacted}
use Rattle.ledger_model.specs.declared.block.Metadata.{Metadata}
use Rattle.ledger_model.specs.declared.block.Revision.{Revision}
use Rattle.ledger_model.specs.declared.block.Told.{Told}
use Rattle.ledger_model.specs.declared.block.Told.TheVariants as told
use Rattle.ledger_model.specs.declared.block.Info.{Info}
use Rattle.ledger_model.specs.declared.block.Header.{Header}
use Rattle.ledger_model.specs.declared.block.Block.{Block}
use Rattle.ledger_model.specs.Values.{plain, field}

-- ---- parts

abbrev pub number : ℕ → Value
number n = plain (body.Int (pos n))

abbrev pub string : List ℕ → Value
string text = plain (body.String text)

abbrev pub id_value : ℕ → Value
id_value raw = string (id_text raw)

abbrev pub moment : TimeParts → Value
moment t = plain (body.Timestamp t)

abbrev pub structure : List Field → Value
structure fields = plain (body.Struct fields)

abbrev pub list : List Value → Value
list values = plain (body.List values)

abbrev pub hash_value : Hash32 → Value
hash_value h = plain (body.Blob h.bytes)

-- the empty hash is the empty blob
abbrev pub hash_bytes : Hash → List ℕ
hash_bytes Empty = []
hash_bytes (Full h) = h.bytes

abbrev pub address_value : BlockAddress → Value
address_value a =
    structure (field (codes "strandId") (id_value a.strand.raw) ∷ field (codes "sequenceNo") (number a.sequence) ∷ [])

-- ---- revisions

abbrev pub metadata_value : Metadata → Value
metadata_value m = structure (
    field (codes "id") (id_value m.id.raw) ∷ field (codes "version") (number m.version)
    ∷ field (codes "txTime") (moment m.time) ∷ field (codes "txId") (id_value m.tx.raw) ∷ [])

-- a delete has no data, and a redacted revision their hash
abbrev pub data_fields : Content → List Field
data_fields Deleted = []
data_fields (Kept v) = field (codes "data") v ∷ []
data_fields (Redacted hash) = field (codes "dataHash") (hash_value hash) ∷ []

abbrev pub revision_value : Revision → Value
revision_value r = structure (
    (field (codes "blockAddress") (address_value r.address) ∷ field (codes "hash") (hash_value r.hash) ∷ [])
    ++ data_fields r.content ++ field (codes "metadata") (metadata_value r.metadata) ∷ [])

-- ---- what a transaction said and did

abbrev pub place_value : Place → Value
place_value p =
    structure (field (codes "session") (number p.session) ∷ field (codes "transaction") (number p.transaction) ∷ [])

-- the statements that are told; none where their hash alone is
abbrev pub said_in : Told → List Said
said_in (told.Said said) = said
said_in (told.Hashed hash) = []

abbrev pub said_value : Said → Value
said_value s = structure (
    field (codes "statement") (string s.text) ∷ field (codes "parameters") (list s.params)
    ∷ field (codes "answer") (list s.answer.rows) ∷ [])

abbrev pub change_value : List ℕ → List ℕ → TableId → Value
change_value change name table =
    structure (field change (string name) ∷ field (codes "tableId") (id_value table.raw) ∷ [])

-- the revision of a document that is redacted, by the address of its block
abbrev pub redact_value : BlockAddress → TableId → DocId → Value
redact_value address table document = structure (
    field (codes "redact") (address_value address) ∷ field (codes "tableId") (id_value table.raw)
    ∷ field (codes "documentId") (id_value document.raw) ∷ [])

abbrev pub schema_value : Schema → Value
schema_value (Create name table) = change_value (codes "create") name table
schema_value (Index name table) = change_value (codes "index") name table
schema_value (Drop name table) = change_value (codes "drop") name table
schema_value (Redact address table document) = redact_value address table document

abbrev pub document_value : TableId → Revision → Value
document_value t r =
    structure (field (codes "documentId") (id_value r.metadata.id.raw) ∷ field (codes "tableId") (id_value t.raw) ∷ [])

-- each revision's document and table, in order
abbrev pub document_values : List TableId → List Revision → List Value
document_values (t ∷ ts) (r ∷ rs) = document_value t r ∷ document_values ts rs
document_values _ _ = []

-- the statements, or the hash that stands in their place
abbrev pub told_field : Told → Field
told_field (told.Said said) = field (codes "statements") (list (map said_value said))
told_field (told.Hashed hash) = field (codes "statementsHash") (hash_value hash)

abbrev pub place_field : Info → Field
place_field i = field (codes "place") (place_value i.place)

abbrev pub schema_field : Info → Field
schema_field i = field (codes "schema") (list (map schema_value i.schema))

abbrev pub documents_field : Info → List Revision → Field
documents_field i revisions = field (codes "documents") (list (document_values i.tables revisions))

abbrev pub info_fields : Info → List Revision → List Field
info_fields i revisions = place_field i ∷ told_field i.said ∷ schema_field i ∷ documents_field i revisions ∷ []

abbrev pub info_value : Info → List Revision → Value
info_value i revisions = structure (info_fields i revisions)

-- ---- blocks

abbrev pub header_value : Header → Value
header_value h = structure (
    field (codes "blockAddress") (address_value h.address) ∷ field (codes "transactionId") (id_value h.tx.raw)
    ∷ field (codes "blockTimestamp") (moment h.time) ∷ field (codes "revisionCount") (number h.revisions) ∷ [])

abbrev pub front_fields : Header → List Field
front_fields h =
    field (codes "blockAddress") (address_value h.address) ∷ field (codes "transactionId") (id_value h.tx.raw)
    ∷ field (codes "blockTimestamp") (moment h.time) ∷ []

abbrev pub hash_fields : Block → List Field
hash_fields b =
    field (codes "blockHash") (hash_value b.hash) ∷ field (codes "entriesHash") (hash_value b.entries)
    ∷ field (codes "previousBlockHash") (hash_value b.previous)
    ∷ field (codes "entriesHashList") (list (map (λ h. plain (body.Blob (hash_bytes h))) b.list)) ∷ []

abbrev pub block_value : Block → Value
block_value b = structure (
    front_fields b.header ++ hash_fields b
    ++ field (codes "transactionInfo") (info_value b.info b.revisions)
    ∷ field (codes "revisions") (list (map revision_value b.revisions)) ∷ [])

-- a block's line
abbrev pub line : Block → List ℕ
line b = value_text (block_value b) ++ 10 ∷ []

-- the bytes of a journal
abbrev pub journal_bytes : List Block → List ℕ
journal_bytes blocks = flat_map line blocks
