use Rattle.std.proofs.Common.{◌≡◌, false, codes}
use Rattle.std.proofs.lemmas.Str.Pattern.{starts_text}
use Rattle.pql_model.specs.Tables.{is_committed}
use Rattle.txn_core.proofs.Selects.{plain-name}
use Rattle.txn_core.proofs.sources.table_named.Goals as goal

pub returns-in-None : goal.returns-in-None
returns-in-None c =
    let other : false ≡ is_committed c.args.name.now = starts_text false (codes "_ql_committed_") c.args.name.now c.in-None.ensures.cases in
    plain-name c.args.name.now other
