use Rattle.std.proofs.Common.{◌∙◌, ap}
use Rattle.pql_model.specs.Names.{called, or_else}
use Rattle.pql_model.proofs.Resolving.{resolve_next}
use Rattle.pql_model.proofs.names.resolve_source.Goals as goal

pub sources-preserved : goal.sources-preserved
sources-preserved c =
    c.later-last.ensures
    ∙ ap (λ r. or_else r c.sources.last) c.resolved_by-found.ensures
    ∙ resolve_next called c.args.name.now c.args.sources.now c.sources.place c.index-sources-place.result c.sources.last c.sources-test.true c.index-sources-place.is c.sources.invariant
