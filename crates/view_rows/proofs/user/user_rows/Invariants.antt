use Rattle.std.proofs.Common.{◌≡◌, ◌++◌, drop}
use Rattle.std.specs.List.{filter_map}
use Rattle.pql_model.specs.Tables.{meeting}
use Rattle.ledger_model.specs.Views.{row_of}
use Rattle.view_rows.specs.Seen.{drafts_seen}
use Rattle.view_rows.proofs.user.user_rows.Given as goal

-- the rows so far and those of the rest are all rows
abbrev pub invariant-documents : goal.invariant-documents
invariant-documents l =
    l.rows ++ meeting l.probe (filter_map (row_of l.table) (drafts_seen (drop l.document-index l.documents)))
    ≡ meeting l.probe (filter_map (row_of l.table) (drafts_seen l.documents))
