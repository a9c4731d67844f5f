-- The stream of a journal (Amazon QLDB, "Streaming journal data"): a created record; for each block its summary and
-- then the details of its revisions in order; a completed record. A record names the table of a revision as it was
-- created.
use Rattle.std.specs.Prelude.{ℕ, ◌-◌, ◌==◌, List, [], ◌∷◌, ◌++◌, map, take, drop, Option, Some, None, if◌then◌else◌}
use Rattle.std.specs.List.{flat_map}
use Rattle.std.specs.Option.{unwrap_or}
use Rattle.ql_types.specs.declared.TableId.{TableId}
use Rattle.ledger_model.specs.declared.block.Schema.{Schema}
use Rattle.ledger_model.specs.declared.block.Schema.TheVariants.{Create}
use Rattle.ledger_model.specs.declared.block.Revision.{Revision}
use Rattle.ledger_model.specs.declared.block.Block.{Block}
use Rattle.ledger_model.specs.Script.{or_else}
use Rattle.stream_out.specs.declared.record.RevisionSummary.{RevisionSummary}
use Rattle.stream_out.specs.declared.record.Summary.{Summary}
use Rattle.stream_out.specs.declared.record.Details.{Details}
use Rattle.stream_out.specs.declared.record.Record.{Record}
use Rattle.stream_out.specs.declared.record.Record.TheVariants as kind

-- ---- names of tables

-- the name of the table of this id, if the change creates it
abbrev pub created_name : Schema → ℕ → Option (List ℕ)
created_name (Create name table) id = if table.raw == id then Some name else None
created_name _ id = None

-- the name under which these changes create the table of this id
abbrev pub name_in : List Schema → ℕ → Option (List ℕ)
name_in [] id = None
name_in (c ∷ cs) id = or_else (name_in cs id) (created_name c id)

abbrev pub name_of : List Schema → ℕ → List ℕ
name_of changes id = unwrap_or (name_in changes id) []

-- the changes of the schema in blocks, in order
abbrev pub changes_in : List Block → List Schema
changes_in blocks = flat_map (λ b. b.info.schema) blocks

-- ---- the records of a block

abbrev pub listed_as : Revision → RevisionSummary
listed_as r = record { hash = r.hash; document = r.metadata.id }

abbrev pub summary_of : Block → Summary
summary_of b = record { block = record b { revisions = [] }; listed = map listed_as b.revisions }

-- each revision with its table, which these changes create
abbrev pub details_of : List Schema → List TableId → List Revision → List Details
details_of changes (t ∷ ts) (r ∷ rs) =
    record { table = t; name = name_of changes t.raw; revision = r } ∷ details_of changes ts rs
details_of changes _ _ = []

-- the changes are those up to the block's own
abbrev pub block_records : List Schema → Block → List Record
block_records changes b =
    kind.Summary (summary_of b) ∷ map kind.Details (details_of changes b.info.tables b.revisions)

-- the records of blocks behind these changes
abbrev pub records_behind : List Schema → List Block → List Record
records_behind changes [] = []
records_behind changes (b ∷ bs) =
    block_records (changes ++ b.info.schema) b ++ records_behind (changes ++ b.info.schema) bs

-- the records of the blocks of a journal from one number up to but without another
abbrev pub records_of : List Block → ℕ → ℕ → List Record
records_of journal from to = records_behind (changes_in (take from journal)) (take (to - from) (drop from journal))

-- ---- the stream

abbrev pub stream : List Block → ℕ → ℕ → List Record
stream journal from to = kind.Created ∷ records_of journal from to ++ kind.Completed ∷ []
