use Rattle.std.proofs.Common.{◌≡◌, ℕ, List, false, codes, refl, sym}
use Rattle.std.proofs.lemmas.Str.Pattern.{starts_text}
use Rattle.pql_model.specs.Tables.{is_committed, table_named}
use Rattle.access_rules.proofs.statements.table_named.Goals as goal

-- a name without the prefix of committed views
plain_name : (name : List ℕ) → false ≡ is_committed name → name ≡ table_named name
plain_name name e = rw (sym e) refl

pub returns-in-None : goal.returns-in-None
returns-in-None c =
    let other : false ≡ is_committed c.args.name.now = starts_text false (codes "_ql_committed_") c.args.name.now c.in-None.ensures.cases in
    plain_name c.args.name.now other
