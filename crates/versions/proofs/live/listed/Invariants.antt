use Rattle.std.proofs.Common.{◌≡◌, ◌++◌, length}
use Rattle.versions.proofs.live.listed.Given as goal

-- the places so far and those that are left are all
abbrev pub invariant-places : goal.invariant-places
invariant-places l = l.all ++ l.places ≡ l.initial.places

abbrev pub decreases-places : goal.decreases-places
decreases-places l = length l.places
