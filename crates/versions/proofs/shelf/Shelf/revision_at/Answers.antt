use Rattle.std.proofs.Common.{◌∙◌, ap, map}
use Rattle.std.specs.Prelude.{◌==◌, slice_get}
use Rattle.std.specs.Option.{option_copied}
use Rattle.ledger_model.specs.State as state
use Rattle.versions.specs.Held.{recorded_of}
use Rattle.versions.specs.ByTable.{had_of, revisions_in}
use Rattle.versions.proofs.Along.{read_there}
use Rattle.versions.proofs.shelf.Shelf.revision_at.Goals as goal

pub returns : goal.returns
returns c =
    let shelf = c.self.inside in
    read_there recorded_of (λ (r : state.Recorded). r.table.raw == c.args.table.raw) shelf.revisions
    (had_of shelf.by_table c.args.table) c.args.i c.place_of-place.result (option_copied c.at_place.result)
    (c.self.invariant.tables_are c.args.table) c.place_of-place.ensures c.at_place.ensures
    ∙ ap (λ rs. slice_get (revisions_in (map recorded_of rs) c.args.table) c.args.i) c.self.view_is
