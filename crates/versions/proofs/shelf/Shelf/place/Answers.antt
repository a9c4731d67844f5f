use Rattle.std.proofs.Common.{List, map, ap, ◌∙◌}
use Rattle.ledger_model.specs.State.{draft_of}
use Rattle.ledger_model.specs.Views.{latest}
use Rattle.versions.specs.declared.recorded.Recorded.{Recorded}
use Rattle.versions.specs.Held.{recorded_of}
use Rattle.versions.specs.Places.{numbers_of, place_in}
use Rattle.versions.proofs.OneTable.{place_is}
use Rattle.versions.proofs.shelf.Shelf.place.Goals as goal

pub returns : goal.returns
returns c =
    let shelf = c.self.inside in
    place_is shelf.latest shelf.revisions c.args.id.raw c.place_of.result c.self.invariant.newest_is c.place_of.ensures
    ∙ ap (λ (rs : List Recorded). place_in (numbers_of (latest (map draft_of (map recorded_of rs)))) c.args.id.raw) c.self.view_is
