use Rattle.std.proofs.Common.{◌≡◌, All, length, ap, arith, sym, subst}
use Rattle.std.proofs.lemmas.List.{take_at}
use Rattle.turn_lock.specs.Seats.{Rests}
use Rattle.turn_lock_example.specs.Marks.{IsRun}
use Rattle.turn_lock_example.proofs.workers.work_by_two.Goals as goal

pub close-requires-clause-each : goal.close-requires-clause-each
close-requires-clause-each g c =
    let s = c.all_work.new.passes in
    let long : length s ≡ c.in_ok-lock.passes.len = omega (arith, ap length c.as_mut_slice.ensures.value, c.as_mut_slice.ensures.len) in
    subst (λ l. All (Rests IsRun c.in_ok-lock.lock.table.shared.table_id tt) l) (sym (take_at s _ _ long)) c.all_work.ensures
