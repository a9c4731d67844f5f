use Rattle.std.proofs.Common.{◌≡◌, ◌∙◌, ap, false, codes}
use Rattle.std.proofs.lemmas.Str.Pattern.{starts_text}
use Rattle.pql_model.specs.Tables.{is_committed, table_named}
use Rattle.pql_from.proofs.Filtered.{plain_name}
use Rattle.pql_from.proofs.views.table_named.Goals as goal

pub returns-in-None : goal.returns-in-None
returns-in-None c =
    let other : false ≡ is_committed c.args.name.now = starts_text false (codes "_ql_committed_") c.as_str.result.now c.in-None.ensures.cases ∙ ap is_committed c.as_str.ensures in
    let same : table_named c.args.name.now ≡ c.args.name.now = plain_name c.args.name.now other in
    rw same c.copy.ensures
