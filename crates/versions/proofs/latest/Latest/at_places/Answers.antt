use Rattle.std.proofs.Common.{ℕ, get_or, refl}
use Rattle.std.specs.Option.{option_copied}
use Rattle.versions.proofs.Newest.{lent_values}
use Rattle.versions.proofs.OneTable.{at_next}
use Rattle.versions.proofs.latest.Latest.at_places.Goals as goal

pub places-preserved : goal.places-preserved
places-preserved c =
    let at : ℕ = get_or c.args.places.now c.places.at-index 0 in
    at_next c.args.self.now c.args.places.now c.places.at-index at (option_copied c.get.result) (lent_values c.places.all)
    (lent_values c.push_some.new.all) c.places-test.true refl c.get.ensures c.in_ok-push_some.ensures c.places.invariant
