use Rattle.std.proofs.Common.{◌≡◌, ◌++◌}
use Rattle.pql_change.specs.Touched.{rows_in}
use Rattle.pql_change.proofs.documents.into_rows.Given as goal

abbrev pub invariant-documents : goal.invariant-documents
invariant-documents l = l.rows ++ rows_in l.raw-iterator ≡ rows_in l.fn.touched.entries
