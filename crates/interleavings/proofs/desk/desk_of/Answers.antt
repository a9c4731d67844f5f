use Rattle.interleavings.proofs.Fresh.{fresh}
use Rattle.interleavings.proofs.desk.desk_of.Goals as goal

pub returns-in-Ok-clause-fresh : goal.returns-in-Ok-clause-fresh
returns-in-Ok-clause-fresh c =
    fresh c.in-Ok.tail c.args.times c.into_vec.result.items c.new-store.result _ c.new.result.items c.new-clock.result c.new-store.ensures c.new.ensures.items
    c.in-Ok.ensures.journal c.in-Ok.ensures.mask c.in-Ok.ensures.last c.in-Ok.ensures.clock c.new-clock.ensures c.into_vec.ensures
