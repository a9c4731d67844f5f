use Rattle.std.proofs.Common.{◌≡◌, ◌++◌, drop}
use Rattle.pql_model.specs.Tables.{meeting}
use Rattle.versions.specs.Held.{recorded_lent}
use Rattle.view_rows.specs.Shown.{live_rows}
use Rattle.view_rows.proofs.committed_view.live_rows.Given as goal

-- the rows so far and those of the rest are all rows
abbrev pub invariant-documents : goal.invariant-documents
invariant-documents l =
    l.rows ++ meeting l.probe (live_rows l.table (recorded_lent (drop l.recorded-index l.latest)))
    ≡ meeting l.probe (live_rows l.table (recorded_lent l.latest))
