-- The clock's own clauses give what the trait asks.
use Rattle.std.proofs.Common.{refl}
use Rattle.outside.proofs.Answered.{adds_next}
use Rattle.outside.proofs.memory.clocks.SetClockClock.TheImpl.Goals as goal

pub now-tells : goal.now-tells
now-tells c = record {
  told = adds_next c.args.self.now c.new.self.now c.result c.ensures.after c.ensures.answer;
  one = tt;
  kept = refl;
}
