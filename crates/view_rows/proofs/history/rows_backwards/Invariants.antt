use Rattle.std.proofs.Common.{◌≡◌, ◌++◌, length, map}
use Rattle.std.specs.Prelude.{reverse}
use Rattle.pql_model.specs.Tables.{meeting}
use Rattle.ledger_model.specs.CommittedViews.{row_showing}
use Rattle.versions.specs.Held.{recorded_lent}
use Rattle.view_rows.proofs.history.rows_backwards.Given as goal

-- the rows so far and those of the revisions that are left are all rows
abbrev pub invariant-shown : goal.invariant-shown
invariant-shown l =
    l.rows ++ meeting l.probe (map row_showing (reverse (recorded_lent l.shown)))
    ≡ meeting l.probe (map row_showing (reverse (recorded_lent l.initial.shown)))

abbrev pub decreases-shown : goal.decreases-shown
decreases-shown l = length l.shown
