use Rattle.std.proofs.Common.{◌≡◌, ◌+◌, ◌≤◌}
use Rattle.ion_order.specs.Key.{zeros_of}
use Rattle.ion_order.proofs.keys.zeros_at_end.Given as goal

abbrev pub invariant-zeros : goal.invariant-zeros
invariant-zeros l = record { told : l.zeros + zeros_of l.rest ≡ zeros_of l.number; some : 1 ≤ l.rest; few : zeros_of l.number ≤ 38 }

abbrev pub decreases-zeros : goal.decreases-zeros
decreases-zeros l = zeros_of l.rest
