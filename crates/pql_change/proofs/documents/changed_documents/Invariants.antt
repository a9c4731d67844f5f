use Rattle.std.proofs.Common.{◌≡◌, drop}
use Rattle.pql_model.specs.Effects.{changed_documents, touched_from}
use Rattle.pql_change.specs.Touched.{rows_in}
use Rattle.pql_change.proofs.documents.changed_documents.Given as goal

abbrev pub invariant-rows : goal.invariant-rows
invariant-rows l =
    touched_from l.params l.change (rows_in l.touched.entries) (drop l.scope-index l.scope-items) ≡ changed_documents l.params l.change l.rows
