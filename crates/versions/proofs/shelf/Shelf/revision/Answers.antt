use Rattle.std.proofs.Common.{◌∙◌, ap, map}
use Rattle.std.specs.Prelude.{◌==◌, slice_get}
use Rattle.std.specs.Option.{option_copied}
use Rattle.ledger_model.specs.State as state
use Rattle.versions.specs.Held.{recorded_of}
use Rattle.versions.specs.Histories.{history_at, revisions_of}
use Rattle.versions.proofs.Along.{read_there}
use Rattle.versions.proofs.shelf.Shelf.revision.Goals as goal

pub returns : goal.returns
returns c =
    let shelf = c.self.inside in
    read_there recorded_of (λ (r : state.Recorded). r.revision.metadata.id.raw == c.args.id.raw) shelf.revisions
    (history_at shelf.histories c.place_of.result) c.args.number c.place_at-place.result (option_copied c.at_place.result)
    (ap (history_at shelf.histories) c.place_of.ensures ∙ c.self.invariant.kept_are.places c.args.id.raw) c.place_at-place.ensures
    c.at_place.ensures
    ∙ ap (λ rs. slice_get (revisions_of (map recorded_of rs) c.args.id.raw) c.args.number) c.self.view_is
