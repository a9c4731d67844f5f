use Rattle.std.proofs.Common.{List, map, ap, ◌∙◌}
use Rattle.ledger_model.specs.State.{draft_of}
use Rattle.ledger_model.specs.Views.{latest}
use Rattle.versions.specs.declared.recorded.Recorded.{Recorded}
use Rattle.versions.specs.Filing.{places_from}
use Rattle.versions.specs.Held.{recorded_of}
use Rattle.versions.specs.Live.{is_live}
use Rattle.versions.proofs.OneTable.{live_places}
use Rattle.versions.proofs.shelf.Shelf.places_of.Goals as goal

pub returns : goal.returns
returns c =
    let shelf = c.self.inside in
    live_places shelf.latest shelf.revisions shelf.live c.in_ok-places.places c.args.table c.self.invariant.newest_is c.self.invariant.live_are
    (c.in_ok-places.ensures ∙ c.of.ensures.positions)
    ∙ ap (λ (rs : List Recorded). places_from (is_live c.args.table) 0 (latest (map draft_of (map recorded_of rs)))) c.self.view_is
