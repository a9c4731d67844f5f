-- When a block is whole, so that it has a line in a journal: its lists agree, no document and not the block nests too
-- deep, and each number, id and hash is within its type.
use Rattle.std.specs.Prelude.{◌≡◌, ℕ, ◌≤◌, ◌^◌, ◌==◌, ◌&&◌, Bool, true, false, nat_lt, nat_le, length, IsTrue}
use Rattle.std.specs.List.{list_all}
use Rattle.ion_values.specs.Depth.{depth_of}
use Rattle.ion_values.specs.Within.{within}
use Rattle.ql_types.specs.declared.Hash32.{Hash32}
use Rattle.ql_types.specs.declared.Hash.{Hash}
use Rattle.ql_types.specs.declared.Hash.TheVariants.{Empty, Full}
use Rattle.ql_types.specs.declared.Place.{Place}
use Rattle.ql_types.specs.declared.TableId.{TableId}
use Rattle.ql_types.specs.declared.BlockAddress.{BlockAddress}
use Rattle.ledger_model.specs.declared.block.Schema.{Schema}
use Rattle.ledger_model.specs.declared.block.Schema.TheVariants.{Create, Index, Drop, Redact}
use Rattle.ledger_model.specs.declared.block.Content.{Content}
use Rattle.ledger_model.specs.declared.block.Content.TheVariants.{Deleted, Kept, Redacted}
use Rattle.ledger_model.specs.declared.block.Metadata.{Metadata}
use Rattle.ledger_model.specs.declared.block.Revision.{Revision}
use Rattle.ledger_model.specs.declared.block.Told.{Told}
use Rattle.ledger_model.specs.declared.block.Told.TheVariants as told
use Rattle.ledger_model.specs.declared.block.Info.{Info}
use Rattle.ledger_model.specs.declared.block.Header.{Header}
use Rattle.ledger_model.specs.declared.block.Block.{Block}
use Rattle.ledger_model.specs.Journal.{block_value}

-- ---- what fits its type

abbrev pub id_fits : ℕ → Bool
id_fits raw = nat_lt raw (2 ^ 128)

abbrev pub table_fits : TableId → Bool
table_fits t = id_fits t.raw

abbrev pub hash_fits : Hash32 → Bool
hash_fits h = length h.bytes == 32

abbrev pub entry_fits : Hash → Bool
entry_fits Empty = true
entry_fits (Full h) = hash_fits h

abbrev pub address_fits : BlockAddress → Bool
address_fits a = id_fits a.strand.raw && nat_lt a.sequence (2 ^ 64)

abbrev pub metadata_fits : Metadata → Bool
metadata_fits m = id_fits m.id.raw && nat_lt m.version (2 ^ 64) && id_fits m.tx.raw

abbrev pub content_fits : Content → Bool
content_fits Deleted = true
content_fits (Kept v) = true
content_fits (Redacted hash) = hash_fits hash

abbrev pub revision_fits : Revision → Bool
revision_fits r = address_fits r.address && hash_fits r.hash && metadata_fits r.metadata && content_fits r.content

abbrev pub place_fits : Place → Bool
place_fits p = nat_lt p.session (2 ^ 32) && nat_lt p.transaction (2 ^ 32)

abbrev pub schema_fits : Schema → Bool
schema_fits (Create name t) = table_fits t
schema_fits (Index field t) = table_fits t
schema_fits (Drop name t) = table_fits t
schema_fits (Redact address t document) = address_fits address && table_fits t && id_fits document.raw

abbrev pub told_fits : Told → Bool
told_fits (told.Said said) = true
told_fits (told.Hashed statements) = hash_fits statements

abbrev pub info_fits : Info → Bool
info_fits i = place_fits i.place && list_all schema_fits i.schema && list_all table_fits i.tables && told_fits i.said

abbrev pub header_fits : Header → Bool
header_fits h = address_fits h.address && id_fits h.tx.raw && nat_lt h.revisions (2 ^ 32)

abbrev pub hashes_fit : Block → Bool
hashes_fit b =
    hash_fits b.hash && hash_fits b.entries && hash_fits b.previous && (length b.list == 3)
    && list_all entry_fits b.list

abbrev pub block_fits : Block → Bool
block_fits b = header_fits b.header && hashes_fit b && info_fits b.info && list_all revision_fits b.revisions

-- ---- whole blocks

-- a document nests at most 64 deep
abbrev pub is_shallow : Content → Bool
is_shallow Deleted = true
is_shallow (Kept v) = nat_le (depth_of v) 64
is_shallow (Redacted hash) = true

-- ---- hashes in place of statements and of data

abbrev pub is_said : Told → Bool
is_said (told.Said said) = true
is_said (told.Hashed statements) = false

abbrev pub is_redacted : Content → Bool
is_redacted (Redacted hash) = true
is_redacted _ = false

pub record IsWhole (b : Block) : Type 0 where
  pub count : b.header.revisions ≡ length b.revisions
  pub tables : length b.info.tables ≡ length b.revisions
  pub documents : IsTrue (list_all (λ r. is_shallow r.content) b.revisions)
  pub depth : depth_of (block_value b) ≤ 256
  pub fits : IsTrue (block_fits b)
  pub ranges : IsTrue (within (block_value b))
