-- The parts of blocks read back from values (Ion 1.0, "The Ion data model"): each reading gives the part whose value
-- it is given, and None for a value of no part. Fields stand in the written order, with none beside them.
use Rattle.std.specs.Prelude.{◌≡◌, ◌≢◌, ◌&&◌, IsTrue, nat_le, ℕ, ◌^◌, ◌==◌, nat_lt, List, [], ◌∷◌, take, drop, length, codes, Option, Some, None, option_map, if◌then◌else◌}
use Rattle.std.specs.List.{list_all}
use Rattle.std.specs.Str.{bytes_eq}
use Rattle.ion_values.specs.Depth.{depth_of}
use Rattle.ion_values.specs.Within.{within}
use Rattle.ion_values.specs.declared.value.Value.{Value}
use Rattle.ion_values.specs.declared.value.Field.{Field}
use Rattle.ql_types.specs.declared.Hash.{Hash}
use Rattle.ql_types.specs.declared.Place.{Place}
use Rattle.ql_types.specs.declared.TableId.{TableId}
use Rattle.ledger_model.specs.declared.block.Said.{Said}
use Rattle.ledger_model.specs.declared.block.Schema.{Schema}
use Rattle.ledger_model.specs.declared.block.Schema.TheVariants.{Create, Index, Drop, Redact}
use Rattle.ledger_model.specs.declared.block.Content.{Content}
use Rattle.ledger_model.specs.declared.block.Content.TheVariants.{Deleted, Kept, Redacted}
use Rattle.ledger_model.specs.declared.block.Metadata.{Metadata}
use Rattle.ledger_model.specs.declared.block.Revision.{Revision}
use Rattle.ledger_model.specs.declared.block.Told.{Told}
use Rattle.ledger_model.specs.declared.block.Told.TheVariants as told
use Rattle.ledger_model.specs.declared.block.Info.{Info}
use Rattle.ledger_model.specs.declared.block.Header.{Header}
use Rattle.ledger_model.specs.declared.block.Block.{Block}
use Rattle.block_form.specs.declared.read_blocks.Hashes.{Hashes}
pub use Rattle.value_codec.specs.ReadParts.{named, number_in, moment_in, id_in, hash_in, entry_in, address_in}
use Rattle.ledger_model.specs.Values.{string_in, list_in, fields_in}
use Rattle.ledger_model.specs.Script.{and_then, each}
use Rattle.ledger_model.specs.Journal.{block_value}
use Rattle.ledger_model.specs.Whole.{is_shallow, IsWhole}

-- ---- revisions

abbrev pub metadata_of : List Field → Option Metadata
metadata_of (f ∷ g ∷ h ∷ i ∷ []) =
    and_then (and_then (named (codes "id") f) id_in) (λ id.
    and_then (and_then (named (codes "version") g) (number_in (2 ^ 64))) (λ version.
    and_then (and_then (named (codes "txTime") h) moment_in) (λ time.
    and_then (and_then (named (codes "txId") i) id_in) (λ tx.
    Some (record { id = record { raw = id }; version = version; time = time; tx = record { raw = tx } })))))
metadata_of _ = None

abbrev pub metadata_in : Value → Option Metadata
metadata_in v = and_then (fields_in v) metadata_of

-- the revision of this content
abbrev pub with_content : Content → Field → Field → Field → Option Revision
with_content content f g h =
    and_then (and_then (named (codes "blockAddress") f) address_in) (λ address.
    and_then (and_then (named (codes "hash") g) hash_in) (λ hash.
    and_then (and_then (named (codes "metadata") h) metadata_in) (λ metadata.
    Some (record { address = address; hash = hash; content = content; metadata = metadata }))))

-- the data, or their hash in their place
abbrev pub content_of : Field → Option Content
content_of d =
    if bytes_eq d.name (codes "dataHash") then option_map (λ h. Redacted h) (hash_in d.value)
    else option_map (λ v. Kept v) (named (codes "data") d)

-- a delete has no data
abbrev pub revision_of : List Field → Option Revision
revision_of (f ∷ g ∷ h ∷ []) = with_content Deleted f g h
revision_of (f ∷ g ∷ d ∷ h ∷ []) = and_then (content_of d) (λ content. with_content content f g h)
revision_of _ = None

abbrev pub revision_in : Value → Option Revision
revision_in v = and_then (fields_in v) revision_of

abbrev pub revisions_in : Value → Option (List Revision)
revisions_in v = and_then (list_in v) (each revision_in)

-- ---- what a transaction said and did

abbrev pub place_of : List Field → Option Place
place_of (f ∷ g ∷ []) =
    and_then (and_then (named (codes "session") f) (number_in (2 ^ 32))) (λ session.
    and_then (and_then (named (codes "transaction") g) (number_in (2 ^ 32))) (λ transaction.
    Some (record { session = session; transaction = transaction })))
place_of _ = None

abbrev pub place_in : Value → Option Place
place_in v = and_then (fields_in v) place_of

abbrev pub said_of : List Field → Option Said
said_of (f ∷ g ∷ h ∷ []) =
    and_then (and_then (named (codes "statement") f) string_in) (λ text.
    and_then (and_then (named (codes "parameters") g) list_in) (λ params.
    and_then (and_then (named (codes "answer") h) list_in) (λ rows.
    Some (record { text = text; params = params; answer = record { rows = rows } }))))
said_of _ = None

abbrev pub said_in : Value → Option Said
said_in v = and_then (fields_in v) said_of

-- the change of this kind
abbrev pub change_of : List ℕ → List ℕ → TableId → Option Schema
change_of kind name table =
    if bytes_eq kind (codes "create") then Some (Create name table)
    else if bytes_eq kind (codes "index") then Some (Index name table)
    else if bytes_eq kind (codes "drop") then Some (Drop name table)
    else None

-- the revision of a document in the block at this address
abbrev pub redaction_of : List Field → Option Schema
redaction_of (f ∷ g ∷ h ∷ []) =
    and_then (and_then (named (codes "redact") f) address_in) (λ address.
    and_then (and_then (named (codes "tableId") g) id_in) (λ table.
    and_then (and_then (named (codes "documentId") h) id_in) (λ document.
    Some (Redact address (record { raw = table }) (record { raw = document })))))
redaction_of _ = None

abbrev pub schema_of : List Field → Option Schema
schema_of (f ∷ g ∷ []) =
    and_then (string_in f.value) (λ name.
    and_then (and_then (named (codes "tableId") g) id_in) (λ table. change_of f.name name (record { raw = table })))
schema_of fields = redaction_of fields

abbrev pub schema_in : Value → Option Schema
schema_in v = and_then (fields_in v) schema_of

-- the table of a document, which is that of the revision
abbrev pub table_of : Revision → List Field → Option TableId
table_of r (f ∷ g ∷ []) =
    and_then (and_then (named (codes "documentId") f) id_in) (λ document.
    and_then (and_then (named (codes "tableId") g) id_in) (λ table.
    if document == r.metadata.id.raw then Some (record { raw = table }) else None))
table_of r _ = None

abbrev pub table_in : Revision → Value → Option TableId
table_in r v = and_then (fields_in v) (table_of r)

-- one document for each revision
abbrev pub tables_of : List Value → List Revision → Option (List TableId)
tables_of [] [] = Some []
tables_of (v ∷ vs) (r ∷ rs) = and_then (table_in r v) (λ t. option_map (λ ts. t ∷ ts) (tables_of vs rs))
tables_of _ _ = None

-- the statements, or their hash in their place
abbrev pub told_of : Field → Option Told
told_of g =
    if bytes_eq g.name (codes "statementsHash") then option_map (λ h. told.Hashed h) (hash_in g.value)
    else option_map (λ said. told.Said said) (and_then (and_then (named (codes "statements") g) list_in) (each said_in))

-- each part has to be there
abbrev pub info_from : Option Place → Option Told → Option (List Schema) → Option (List TableId) → Option Info
info_from place told schema tables =
    and_then place (λ place. and_then told (λ said. and_then schema (λ schema. and_then tables (λ tables.
    Some (record { place = place; said = said; schema = schema; tables = tables })))))

abbrev pub info_of : List Revision → List Field → Option Info
info_of revisions (f ∷ g ∷ h ∷ i ∷ []) = info_from
    (and_then (named (codes "place") f) place_in)
    (told_of g)
    (and_then (and_then (named (codes "schema") h) list_in) (each schema_in))
    (and_then (and_then (named (codes "documents") i) list_in) (λ values. tables_of values revisions))
info_of revisions _ = None

abbrev pub info_in : List Revision → Value → Option Info
info_in revisions v = and_then (fields_in v) (info_of revisions)

-- ---- blocks

abbrev pub header_of : ℕ → List Field → Option Header
header_of revisions (f ∷ g ∷ h ∷ []) =
    and_then (and_then (named (codes "blockAddress") f) address_in) (λ address.
    and_then (and_then (named (codes "transactionId") g) id_in) (λ tx.
    and_then (and_then (named (codes "blockTimestamp") h) moment_in) (λ time.
    Some (record { address = address; tx = record { raw = tx }; time = time; revisions = revisions }))))
header_of revisions _ = None

unfoldable pub entries_of : List Value → Option (List Hash)
entries_of (a ∷ b ∷ c ∷ []) =
    and_then (entry_in a) (λ info. and_then (entry_in b) (λ revisions. and_then (entry_in c) (λ header.
    Some (info ∷ revisions ∷ header ∷ []))))
entries_of _ = None

abbrev pub hashes_of : List Field → Option Hashes
hashes_of (f ∷ g ∷ h ∷ i ∷ []) =
    and_then (and_then (named (codes "blockHash") f) hash_in) (λ hash.
    and_then (and_then (named (codes "entriesHash") g) hash_in) (λ entries.
    and_then (and_then (named (codes "previousBlockHash") h) hash_in) (λ previous.
    and_then (and_then (and_then (named (codes "entriesHashList") i) list_in) entries_of) (λ list.
    Some (record { hash = hash; entries = entries; previous = previous; list = list })))))
hashes_of _ = None

abbrev pub count_of : List Revision → Option ℕ
count_of revisions = if nat_lt (length revisions) (2 ^ 32) then Some (length revisions) else None

abbrev pub block_with : Header → Hashes → Info → List Revision → Block
block_with header hashes info revisions = record {
  header = header;
  hash = hashes.hash;
  entries = hashes.entries;
  previous = hashes.previous;
  list = hashes.list;
  info = info;
  revisions = revisions;
}

-- from the fields in front of the hashes, the hashes, and the fields behind them
abbrev pub parts_of : List Field → List Field → List Field → Option Block
parts_of front hashes (info ∷ revisions ∷ []) =
    and_then (hashes_of hashes) (λ hashes.
    and_then (and_then (named (codes "revisions") revisions) revisions_in) (λ revisions.
    and_then (count_of revisions) (λ count.
    and_then (header_of count front) (λ header.
    and_then (and_then (named (codes "transactionInfo") info) (info_in revisions)) (λ info.
    Some (block_with header hashes info revisions))))))
parts_of front hashes _ = None

abbrev pub block_of : List Field → Option Block
block_of fields =
    if length fields == 9 then parts_of (take 3 fields) (take 4 (drop 3 fields)) (drop 4 (drop 3 fields)) else None

abbrev pub block_in : Value → Option Block
block_in v = and_then (fields_in v) block_of

-- a block whose documents and whose value don't nest too deep
abbrev pub shallow : Value → Block → Option Block
shallow v b = if nat_le (depth_of v) 256 && list_all (λ r. is_shallow r.content) b.revisions then Some b else None

abbrev pub whole_in : Value → Option Block
whole_in v = and_then (block_in v) (shallow v)

-- a value is read as the whole block whose value it is, its numbers, texts and bytes being within their types, and as
-- none exactly where no whole block has it
abbrev pub IsReadAs : Value → Option Block → Type 0
IsReadAs v (Some b) = (v ≡ block_value b) × (IsTrue (within v) → IsWhole b)
IsReadAs v None = (b : Block) → IsWhole b → v ≢ block_value b

-- whole blocks of one value are one block
abbrev pub ValuesTellBlocks : Type 0
ValuesTellBlocks = (a b : Block) → IsWhole a → IsWhole b → block_value a ≡ block_value b → a ≡ b
