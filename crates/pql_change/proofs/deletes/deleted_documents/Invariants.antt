use Rattle.std.proofs.Common.{◌≡◌, drop}
use Rattle.pql_model.specs.Effects.{deleted_documents, deleted_from}
use Rattle.pql_change.specs.Touched.{ids_in}
use Rattle.pql_change.proofs.deletes.deleted_documents.Given as goal

abbrev pub invariant-rows : goal.invariant-rows
invariant-rows l = deleted_from (ids_in l.named.keys) (drop l.scope-index l.scope-items) ≡ deleted_documents l.rows
