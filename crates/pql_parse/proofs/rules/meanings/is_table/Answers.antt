use Rattle.std.proofs.Common.{not, ap, sym, ◌∙◌, codes}
use Rattle.std.proofs.lemmas.Str.Pattern.{starts_text}
use Rattle.ion_model.specs.Blanks.{begins}
use Rattle.pql_model.specs.Rules.{is_table}
use Rattle.pql_parse.proofs.rules.meanings.is_table.Goals as goal

pub returns-in-Table : goal.returns-in-Table
returns-in-Table c =
    ap not (starts_text c.starts_with.result (codes "_ql_committed_") c.as_str.result.now c.starts_with.ensures.cases)
    ∙ ap (λ name. not (begins (codes "_ql_committed_") name)) c.as_str.ensures
    ∙ ap is_table (sym c.in-Table.is)
