use Rattle.std.proofs.Common.{◌∙◌, ap}
use Rattle.pql_model.proofs.Resolving.{resolve_next}
use Rattle.pql_model.specs.Names.{called_in_row, or_else}
use Rattle.pql_model.proofs.names.resolve.Goals as goal

pub sources-preserved : goal.sources-preserved
sources-preserved c =
    c.later-last.ensures
    ∙ ap (λ r. or_else r c.sources.last) c.resolved_by-found.ensures
    ∙ resolve_next called_in_row c.args.name.now c.args.scope.now c.sources.place c.index-scope-place.result c.sources.last c.sources-test.true c.index-scope-place.is c.sources.invariant
