use Rattle.std.proofs.Common.{◌∙◌, ap, sym}
use Rattle.std.specs.Option.{option_copied}
use Rattle.pql_model.specs.Made.{found}
use Rattle.pql_model.specs.Steps.{named}
use Rattle.pql_expr.specs.Contexts.{context_of}
use Rattle.pql_expr.proofs.Walks.{path_ends, path_missing}
use Rattle.pql_expr.proofs.evaluation.+eval.Goals as goal

pub path_in-returns-in-Nothing : goal.path_in-returns-in-Nothing
path_in-returns-in-Nothing t c =
    let context = context_of c.args.context.now in
    path_missing c.args.path.now context (c.in-Nothing.ensures ∙ ap (λ name. named name context.is_whole context.scope) c.as_str.ensures)

pub walked-returns-in-None : goal.walked-returns-in-None
walked-returns-in-None t c =
    path_ends c.args.steps.now c.steps.step-index c.step-item.result (context_of c.args.context.now) c.steps.at.now c.args.from.now
    c.steps-test.true c.step-item.is c.steps.invariant (sym (ap (λ v. found (option_copied v)) c.in-None.is) ∙ c.in_ok-next.ensures)
