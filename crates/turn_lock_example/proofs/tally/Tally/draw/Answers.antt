use Rattle.std.proofs.Common.{◌≡◌, ◌+◌, List, sym, subst, Some}
use Rattle.turn_lock_example.specs.Marks.{run}
use Rattle.turn_lock_example.proofs.Runs.{run_drawn}
use Rattle.turn_lock_example.proofs.tally.Tally.draw.Goals as goal

pub invariant_of-self-2 : goal.invariant_of-self-2
invariant_of-self-2 c =
    let old = c.args.self.now in
    record { runs = subst (λ l. run 0 l ≡ Some (old.next + 1)) (sym c.in_ok-push.ensures.items) (run_drawn 0 old.next old.marks.items old.runs) }
