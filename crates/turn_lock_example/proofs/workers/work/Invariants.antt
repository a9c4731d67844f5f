use Rattle.turn_lock.specs.Seats.{Rests}
use Rattle.turn_lock_example.specs.Marks.{IsRun}
use Rattle.turn_lock_example.proofs.workers.work.Given as goal

abbrev pub invariant-loop : goal.invariant-loop
invariant-loop g l = Rests IsRun l.lock.table.shared.table_id tt l.pass
