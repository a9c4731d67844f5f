use Rattle.std.proofs.Common.{◌≡◌, arith, subst}
use Rattle.turn_lock.specs.Seats.{Rests}
use Rattle.turn_lock_example.specs.Marks.{IsRun}
use Rattle.turn_lock_example.proofs.workers.all_work.Goals as goal

pub returns : goal.returns
returns g c k d lt =
    let change = (c.for_each_mut.ensures k d (omega (arith, lt))).1 in
    subst (λ p. Rests IsRun c.args.lock.now.table.shared.table_id tt p) change.left change.call
