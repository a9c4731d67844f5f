use Rattle.std.proofs.Common.{◌≤◌, ◌-◌, length}
use Rattle.txn_core.specs.Layered.{below}
use Rattle.txn_core.proofs.one_table.below.Given as goal

-- the count is in between
abbrev pub invariant-places : goal.invariant-places
invariant-places l = record {
  low : l.low ≤ below l.at l.places;
  high : below l.at l.places ≤ l.high;
  within : l.high ≤ length l.places;
}

abbrev pub decreases-places : goal.decreases-places
decreases-places l = l.high - l.low
