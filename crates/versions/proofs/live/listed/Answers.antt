use Rattle.versions.proofs.OneTable.{listed_end, listed_next}
use Rattle.versions.proofs.live.listed.Goals as goal

pub places-preserved : goal.places-preserved
places-preserved c =
    listed_next c.places.places c.next.new.self c.places.all c.push.new.self _ c.in-Some.at c.in-Some.ensures.steps c.in_ok-push.ensures.ok c.places.invariant

pub returns : goal.returns
returns c = listed_end c.places.places c.places.all _ c.in_default.ensures.steps.0 c.places.invariant
