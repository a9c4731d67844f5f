use Rattle.std.specs.Option.{option_copied}
use Rattle.versions.proofs.Members.{ids_end, ids_next}
use Rattle.versions.proofs.live.ids_at.Goals as goal

pub places-preserved : goal.places-preserved
places-preserved c =
    ids_next c.args.latest.now c.places.places c.next.new.self c.in-Some.at (option_copied c.get.result) c.places.ids c.push_id.new.ids _
    c.in-Some.ensures.steps c.get.ensures c.in_ok-push_id.ensures c.places.invariant

pub returns : goal.returns
returns c = ids_end c.args.latest.now c.places.places c.places.ids _ c.in_default.ensures.steps.0 c.places.invariant
