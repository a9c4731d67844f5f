use Rattle.std.proofs.Common.{ap, ◌∙◌}
use Rattle.versions.specs.Newest.{newest}
use Rattle.versions.proofs.shelf.Shelf.latest.Goals as goal

pub returns : goal.returns
returns c = c.self.invariant.newest_is ∙ ap newest c.self.view_is
