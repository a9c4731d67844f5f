use Rattle.std.proofs.Common.{◌∙◌, ap, map}
use Rattle.versions.specs.Held.{recorded_of}
use Rattle.versions.specs.Lookups.{documents_of}
use Rattle.versions.proofs.Members.{documents_are}
use Rattle.versions.proofs.shelf.Shelf.documents.Goals as goal

pub returns : goal.returns
returns c =
    let shelf = c.self.inside in
    documents_are shelf.latest shelf.revisions shelf.live c.of.result c.args.table c.in_ok-ids.ids c.self.invariant.newest_is c.self.invariant.live_are
    c.of.ensures.positions c.in_ok-ids.ensures
    ∙ ap (λ rs. documents_of (map recorded_of rs) c.args.table) c.self.view_is
