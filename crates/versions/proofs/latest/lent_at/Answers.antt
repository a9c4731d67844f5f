use Rattle.std.specs.Option.{option_copied}
use Rattle.versions.proofs.Among.{some_more}
use Rattle.versions.proofs.Newest.{lent_values}
use Rattle.versions.proofs.latest.lent_at.Goals as goal

pub places-preserved : goal.places-preserved
places-preserved c =
    some_more c.args.documents.now c.places.yielded c.in-Some.at (option_copied c.get.result) (lent_values c.places.all)
    (lent_values c.push_some.new.all) c.get.ensures c.in_ok-push_some.ensures c.places.invariant
