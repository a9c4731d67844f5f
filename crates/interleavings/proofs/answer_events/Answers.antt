use Rattle.interleavings.proofs.Telling.{fresh_ends}
use Rattle.interleavings.proofs.answer_events.Goals as goal

pub returns : goal.returns
returns c =
    fresh_ends c.answer_on.result c.args.out.now c.answer_on.new.out c.args.times c.in_ok-desk.desk.tail c.args.first c.args.values.now
    c.in_ok-desk.ensures.fresh c.answer_on.ensures
