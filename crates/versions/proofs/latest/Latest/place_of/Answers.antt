use Rattle.std.proofs.Common.{ap, ◌∙◌}
use Rattle.versions.specs.Places.{ids_of, place_in}
use Rattle.versions.proofs.latest.Latest.place_of.Goals as goal

pub returns : goal.returns
returns c = c.copied.ensures ∙ c.get.ensures.value ∙ c.self.invariant c.args.id ∙ ap (λ ds. place_in (ids_of ds) c.args.id.raw) c.self.view_is
