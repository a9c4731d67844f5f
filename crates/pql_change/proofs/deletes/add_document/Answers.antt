use Rattle.std.proofs.Common.{sym, ap, ◌∙◌}
use Rattle.pql_change.specs.Touched.{ids_in}
use Rattle.pql_change.proofs.Naming.{names, naming}
use Rattle.pql_change.proofs.deletes.add_document.Goals as goal

pub returns-in_ok-insert-in-Some-id : goal.returns-in_ok-insert-in-Some-id
returns-in_ok-insert-in-Some-id c =
    let keys = c.args.named.now.keys in
    ap ids_in c.in_ok-insert-in-Some-id.ensures.keys
    ∙ naming c.in-Some-id.id keys
    ∙ sym (names c.args.scope.now c.in-Some.source.now c.in-Some-id.id (ids_in keys) c.in-Some.ensures.value c.in-Some-id.is)
