-- When two records are equal: each of their parts is, the fields of structs in order.
use Rattle.std.specs.Prelude.{◌≡◌, ◌↔◌, ◌==◌, ◌&&◌, Bool, true, false, map}
use Rattle.std.specs.Str.{bytes_eq}
use Rattle.std.specs.Cmp.Lexicographic.{pointwise}
use Rattle.ion_values.specs.Equivalent.{in_order, same_time}
use Rattle.ql_types.specs.declared.TableId.{TableId}
use Rattle.ql_types.specs.declared.Place.{Place}
use Rattle.ledger_model.specs.declared.block.Said.{Said}
use Rattle.ledger_model.specs.declared.block.Told.{Told}
use Rattle.ledger_model.specs.declared.block.Told.TheVariants as told
use Rattle.ledger_model.specs.declared.block.Schema.{Schema}
use Rattle.ledger_model.specs.declared.block.Schema.TheVariants.{Create, Index, Drop, Redact}
use Rattle.ledger_model.specs.declared.block.Info.{Info}
use Rattle.ledger_model.specs.declared.block.Header.{Header}
use Rattle.ledger_model.specs.declared.block.Content.{Content}
use Rattle.ledger_model.specs.declared.block.Content.TheVariants.{Deleted, Kept, Redacted}
use Rattle.ledger_model.specs.declared.block.Metadata.{Metadata}
use Rattle.ledger_model.specs.declared.block.Revision.{Revision}
use Rattle.ledger_model.specs.declared.block.Block.{Block}
use Rattle.ledger_model.specs.Follows.{same_address}
use Rattle.ledger_model.specs.Damages.{same_hash, same_entry}
use Rattle.ion_same.specs.Same.{is_same}
use Rattle.stream_out.specs.declared.record.RevisionSummary.{RevisionSummary}
use Rattle.stream_out.specs.declared.record.Summary.{Summary}
use Rattle.stream_out.specs.declared.record.Details.{Details}

-- ---- what a transaction said and did

abbrev pub same_said : Said → Said → Bool
same_said a b =
    bytes_eq a.text b.text && in_order (map is_same a.params) b.params
    && in_order (map is_same a.answer.rows) b.answer.rows

abbrev pub same_told : Told → Told → Bool
same_told (told.Said a) (told.Said b) = pointwise same_said a b
same_told (told.Hashed a) (told.Hashed b) = same_hash a b
same_told _ _ = false

abbrev pub same_table : TableId → TableId → Bool
same_table a b = a.raw == b.raw

abbrev pub same_change : Schema → Schema → Bool
same_change (Create a s) (Create b t) = bytes_eq a b && same_table s t
same_change (Index a s) (Index b t) = bytes_eq a b && same_table s t
same_change (Drop a s) (Drop b t) = bytes_eq a b && same_table s t
same_change (Redact a s d) (Redact b t e) = same_address a b && same_table s t && (d.raw == e.raw)
same_change _ _ = false

abbrev pub same_place : Place → Place → Bool
same_place a b = (a.session == b.session) && (a.transaction == b.transaction)

abbrev pub same_info : Info → Info → Bool
same_info a b =
    same_place a.place b.place && same_told a.said b.said && pointwise same_change a.schema b.schema
    && pointwise same_table a.tables b.tables

-- ---- revisions

abbrev pub same_content : Content → Content → Bool
same_content Deleted Deleted = true
same_content (Kept a) (Kept b) = is_same a b
same_content (Redacted a) (Redacted b) = same_hash a b
same_content _ _ = false

abbrev pub same_metadata : Metadata → Metadata → Bool
same_metadata a b =
    (a.id.raw == b.id.raw) && (a.version == b.version) && same_time a.time b.time && (a.tx.raw == b.tx.raw)

abbrev pub same_revision : Revision → Revision → Bool
same_revision a b =
    same_address a.address b.address && same_hash a.hash b.hash && same_content a.content b.content
    && same_metadata a.metadata b.metadata

-- ---- blocks

abbrev pub same_header : Header → Header → Bool
same_header a b =
    same_address a.address b.address && (a.tx.raw == b.tx.raw) && same_time a.time b.time
    && (a.revisions == b.revisions)

abbrev pub same_hashes : Block → Block → Bool
same_hashes a b =
    same_hash a.hash b.hash && same_hash a.entries b.entries && same_hash a.previous b.previous
    && pointwise same_entry a.list b.list

abbrev pub same_block : Block → Block → Bool
same_block a b =
    same_header a.header b.header && same_hashes a b && same_info a.info b.info
    && pointwise same_revision a.revisions b.revisions

-- ---- records

abbrev pub same_listed : RevisionSummary → RevisionSummary → Bool
same_listed a b = same_hash a.hash b.hash && (a.document.raw == b.document.raw)

abbrev pub same_summary : Summary → Summary → Bool
same_summary a b = same_block a.block b.block && pointwise same_listed a.listed b.listed

abbrev pub same_details : Details → Details → Bool
same_details a b = same_table a.table b.table && bytes_eq a.name b.name && same_revision a.revision b.revision

-- the test passes exactly if its two values are equal
abbrev pub TellsEqual : {A : Type 0} → (A → A → Bool) → Type 0
TellsEqual {A} test = (a b : A) → (test a b ≡ true) ↔ (a ≡ b)
