-- The records that values spell: each reading gives the part whose value it is given, and None for a value of no part.
use Rattle.std.specs.Prelude.{◌≡◌, ◌≢◌, ℕ, List, [], ◌∷◌, ◌++◌, map, codes, Option, Some, None, option_map, IsTrue, if◌then◌else◌}
use Rattle.std.specs.Str.{bytes_eq}
use Rattle.ion_values.specs.Within.{within}
use Rattle.ion_values.specs.declared.value.Value.{Value}
use Rattle.ion_values.specs.declared.value.Field.{Field}
use Rattle.ledger_model.specs.declared.block.Block.{Block}
use Rattle.ledger_model.specs.Values.{field, string_in, list_in, fields_in}
use Rattle.ledger_model.specs.Journal.{structure, list, revision_value}
use Rattle.ledger_model.specs.Script.{and_then, each}
use Rattle.ledger_model.specs.Whole.{is_shallow}
use Rattle.value_codec.specs.ReadParts.{named, id_in, hash_in}
use Rattle.block_form.specs.ReadBack as blocks
use Rattle.block_form.specs.ReadBack.{revision_in}
use Rattle.stream_out.specs.declared.record.RevisionSummary.{RevisionSummary}
use Rattle.stream_out.specs.declared.record.Summary.{Summary}
use Rattle.stream_out.specs.declared.record.Details.{Details}
use Rattle.stream_out.specs.declared.record.Record.{Record}
use Rattle.stream_out.specs.declared.record.Record.TheVariants as kind
use Rattle.stream_out.specs.declared.read_records.Parts.{Parts}
use Rattle.stream_out.specs.declared.read_records.TableInfo.{TableInfo}
use Rattle.stream_out.specs.Records.{typed, stand_in, summary_value, record_value, IsSummary, IsRecord}

-- ---- summaries

abbrev pub listed_of : List Field → Option RevisionSummary
listed_of (f ∷ g ∷ []) =
    and_then (and_then (named (codes "hash") f) hash_in) (λ hash.
    and_then (and_then (named (codes "documentId") g) id_in) (λ id.
    Some (record { hash = hash; document = record { raw = id } })))
listed_of _ = None

abbrev pub listed_in : Value → Option RevisionSummary
listed_in v = and_then (fields_in v) listed_of

-- the revisions that a field lists
abbrev pub listed_from : Field → Option (List RevisionSummary)
listed_from f = and_then (and_then (named (codes "revisionSummaries") f) list_in) (each listed_in)

-- the last field lists revisions, and the others are those in front of it; or it lists none
abbrev pub IsSplit : List Field → Option Parts → Type 0
IsSplit fields (Some p) = (last : Field) × (fields ≡ p.fields ++ last ∷ []) × (listed_from last ≡ Some p.listed)
IsSplit fields None = (front : List Field) (last : Field) → fields ≡ front ++ last ∷ [] → listed_from last ≡ None

-- the value of the block that has these fields in front of its revisions, with what stands for them
abbrev pub stood_value : List Field → List RevisionSummary → Value
stood_value fields listed =
    structure (fields ++ field (codes "revisions") (list (map revision_value (map stand_in listed))) ∷ [])

abbrev pub summary_by : List RevisionSummary → Block → Summary
summary_by listed block = record { block = record block { revisions = [] }; listed = listed }

-- the summary of the block that is read
abbrev pub IsJoined : Parts → Option Summary → Type 0
IsJoined p (Some s) =
    (b : Block) × blocks.IsReadAs (stood_value p.fields p.listed) (Some b) × (s ≡ summary_by p.listed b)
IsJoined p None = blocks.IsReadAs (stood_value p.fields p.listed) None

-- a value is read as the summary whose value it is, and as none exactly if no summary has it
abbrev pub IsSummaryAs : Value → Option Summary → Type 0
IsSummaryAs v (Some s) = (v ≡ summary_value s) × (IsTrue (within v) → IsSummary s)
IsSummaryAs v None = (s : Summary) → IsSummary s → v ≢ summary_value s

-- ---- details

abbrev pub table_of : List Field → Option TableInfo
table_of (f ∷ g ∷ []) =
    and_then (and_then (named (codes "tableId") f) id_in) (λ id.
    and_then (and_then (named (codes "tableName") g) string_in) (λ name.
    Some (record { table = record { raw = id }; name = name })))
table_of _ = None

abbrev pub table_in : Value → Option TableInfo
table_in v = and_then (fields_in v) table_of

-- details whose content doesn't nest too deep
abbrev pub shallow_details : Details → Option Details
shallow_details d = if is_shallow d.revision.content then Some d else None

abbrev pub details_of : List Field → Option Details
details_of (f ∷ g ∷ []) =
    and_then (and_then (named (codes "tableInfo") f) table_in) (λ info.
    and_then (and_then (named (codes "revision") g) revision_in) (λ revision.
    shallow_details (record { table = info.table; name = info.name; revision = revision })))
details_of _ = None

abbrev pub details_in : Value → Option Details
details_in v = and_then (fields_in v) details_of

-- ---- records

abbrev pub control_by : List ℕ → Option Record
control_by word =
    if bytes_eq word (codes "CREATED") then Some kind.Created
    else if bytes_eq word (codes "COMPLETED") then Some kind.Completed
    else None

abbrev pub control_of : List Field → Option Record
control_of (f ∷ []) = and_then (and_then (named (codes "controlRecordType") f) string_in) control_by
control_of _ = None

abbrev pub control_in : Value → Option Record
control_in v = and_then (fields_in v) control_of

-- the record of this type, if it isn't a summary
abbrev pub other_by : List ℕ → Value → Option Record
other_by type payload =
    if bytes_eq type (codes "CONTROL") then control_in payload
    else if bytes_eq type (codes "REVISION_DETAILS") then option_map kind.Details (details_in payload)
    else None

-- a payload is read as that of the record of this type, and as none exactly if it is no record's
abbrev pub IsTypedAs : List ℕ → Value → Option Record → Type 0
IsTypedAs type payload (Some r) = (typed type payload ≡ record_value r) × (IsTrue (within payload) → IsRecord r)
IsTypedAs type payload None = (r : Record) → IsRecord r → typed type payload ≢ record_value r

-- the type and the payload in two fields
abbrev pub typed_of : List Field → Option (List ℕ × Value)
typed_of (f ∷ g ∷ []) =
    and_then (and_then (named (codes "recordType") f) string_in) (λ type.
    and_then (named (codes "payload") g) (λ payload. Some (type, payload)))
typed_of _ = None

abbrev pub typed_in : Value → Option (List ℕ × Value)
typed_in v = and_then (fields_in v) typed_of

-- a value is read as the record whose value it is, its numbers, texts and bytes being within their types, and as none
-- exactly if no record has it
abbrev pub IsReadAs : Value → Option Record → Type 0
IsReadAs v (Some r) = (v ≡ record_value r) × (IsTrue (within v) → IsRecord r)
IsReadAs v None = (r : Record) → IsRecord r → v ≢ record_value r

-- records of one value are one record
abbrev pub ValuesTellRecords : Type 0
ValuesTellRecords = (a b : Record) → IsRecord a → IsRecord b → record_value a ≡ record_value b → a ≡ b
