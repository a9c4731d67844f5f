use Rattle.std.proofs.Common.{◌≡◌}
use Rattle.turn_lock.proofs.steps.seize.Given as goal

abbrev pub invariant-turns : goal.invariant-turns
invariant-turns g l =
    (goal.iterator-turns g).can_next l.iterator' × (goal.iterator-turns g).is_finite l.iterator' × (l.pass.table_id ≡ l.initial.pass.table_id) × (l.pass.me ≡ l.initial.pass.me)
