-- The records of a journal stream and their values (Amazon QLDB, "QLDB stream records in Kinesis"): control records,
-- block summary records and revision details records. A record is written as its value and a line feed.
use Rattle.std.specs.Prelude.{◌≡◌, ℕ, ◌&&◌, List, [], ◌∷◌, ◌++◌, map, codes, None, IsTrue}
use Rattle.ion_values.specs.Within.{within}
use Rattle.ion_values.specs.declared.time.TimeParts.{TimeParts}
use Rattle.ion_values.specs.declared.time.Precision.TheVariants as precision
use Rattle.ion_values.specs.declared.value.Value.{Value}
use Rattle.ion_values.specs.declared.value.Field.{Field}
use Rattle.ion_model.specs.Write.{value_text}
use Rattle.ledger_model.specs.declared.block.Content.TheVariants.{Deleted}
use Rattle.ledger_model.specs.declared.block.Revision.{Revision}
use Rattle.ledger_model.specs.declared.block.Block.{Block}
use Rattle.ledger_model.specs.Values.{field}
use Rattle.ledger_model.specs.Journal.{structure, list, string, id_value, hash_value, front_fields, hash_fields, info_value, revision_value}
use Rattle.ledger_model.specs.Whole.{table_fits, revision_fits, is_shallow, IsWhole}
use Rattle.stream_out.specs.declared.record.RevisionSummary.{RevisionSummary}
use Rattle.stream_out.specs.declared.record.Summary.{Summary}
use Rattle.stream_out.specs.declared.record.Details.{Details}
use Rattle.stream_out.specs.declared.record.Record.{Record}
use Rattle.stream_out.specs.declared.record.Record.TheVariants as kind

-- ---- values

-- a record of this type
abbrev pub typed : List ℕ → Value → Value
typed type payload = structure (field (codes "recordType") (string type) ∷ field (codes "payload") payload ∷ [])

abbrev pub control_value : List ℕ → Value
control_value kind = typed (codes "CONTROL") (structure (field (codes "controlRecordType") (string kind) ∷ []))

abbrev pub listed_value : RevisionSummary → Value
listed_value r =
    structure (field (codes "hash") (hash_value r.hash) ∷ field (codes "documentId") (id_value r.document.raw) ∷ [])

-- the beginning of 1970
abbrev pub epoch : TimeParts
epoch = record {
  precision = precision.Year;
  year = 1970;
  month = 1;
  day = 1;
  hour = 0;
  minute = 0;
  second = 0;
  digits = 0;
  nanos = 0;
  offset = None;
}

-- stands for a revision that is listed alone: a delete of the document, with the hash
abbrev pub stand_in : RevisionSummary → Revision
stand_in r = record {
  address = record { strand = record { raw = 0 }; sequence = 0 };
  hash = r.hash;
  content = Deleted;
  metadata = record { id = r.document; version = 0; time = epoch; tx = record { raw = 0 } };
}

-- the block with what stands for its revisions
abbrev pub stood_in : Summary → Block
stood_in s = record s.block { revisions = map stand_in s.listed }

-- the fields of the block but for its revisions, of which `documents` tells the documents alone
abbrev pub summary_fields : Summary → List Field
summary_fields s =
    front_fields s.block.header ++ hash_fields s.block
    ++ field (codes "transactionInfo") (info_value s.block.info (map stand_in s.listed)) ∷ []

-- and the revisions by their hashes and documents
abbrev pub summary_value : Summary → Value
summary_value s = structure (
    summary_fields s ++ field (codes "revisionSummaries") (list (map listed_value s.listed)) ∷ [])

abbrev pub table_value : Details → Value
table_value d =
    structure (field (codes "tableId") (id_value d.table.raw) ∷ field (codes "tableName") (string d.name) ∷ [])

abbrev pub details_value : Details → Value
details_value d = structure (
    field (codes "tableInfo") (table_value d) ∷ field (codes "revision") (revision_value d.revision) ∷ [])

abbrev pub record_value : Record → Value
record_value kind.Created = control_value (codes "CREATED")
record_value (kind.Summary s) = typed (codes "BLOCK_SUMMARY") (summary_value s)
record_value (kind.Details d) = typed (codes "REVISION_DETAILS") (details_value d)
record_value kind.Completed = control_value (codes "COMPLETED")

-- the line of a record
abbrev pub record_text : Record → List ℕ
record_text r = value_text (record_value r) ++ 10 ∷ []

-- ---- which records have a text

-- it has no revisions itself, and its block is whole with what stands for them: the lists agree, its value nests at
-- most 256 deep, and each number, id and hash is within its type
pub record IsSummary (s : Summary) : Type 0 where
  pub empty : s.block.revisions ≡ []
  pub whole : IsWhole (stood_in s)

pub record IsDetails (d : Details) : Type 0 where
  pub shallow : IsTrue (is_shallow d.revision.content)
  pub fits : IsTrue (table_fits d.table && revision_fits d.revision)
  pub ranges : IsTrue (within (details_value d))

abbrev pub IsRecord : Record → Type 0
IsRecord kind.Created = Unit {0}
IsRecord (kind.Summary s) = IsSummary s
IsRecord (kind.Details d) = IsDetails d
IsRecord kind.Completed = Unit {0}
