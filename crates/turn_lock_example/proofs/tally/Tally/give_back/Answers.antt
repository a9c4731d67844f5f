use Rattle.std.proofs.Common.{◌≡◌, List, sym, subst, Some}
use Rattle.turn_lock_example.specs.Marks.{run}
use Rattle.turn_lock_example.proofs.Runs.{run_kept}
use Rattle.turn_lock_example.proofs.tally.Tally.give_back.Goals as goal

pub invariant_of-self : goal.invariant_of-self
invariant_of-self c =
    let old = c.args.self.now in
    record { runs = subst (λ l. run 0 l ≡ Some old.next) (sym c.push.ensures.items) (run_kept _ old.next c.args.number old.marks.items old.runs c.requires) }
