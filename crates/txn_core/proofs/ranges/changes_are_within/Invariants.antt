use Rattle.std.proofs.Common.{◌≡◌, drop}
use Rattle.std.specs.List.{list_all}
use Rattle.laws_validity.specs.Makes.{change_within}
use Rattle.txn_core.proofs.ranges.changes_are_within.Given as goal

-- those in front are within
abbrev pub invariant-changes : goal.invariant-changes
invariant-changes l = list_all change_within (drop l.change-index l.changes) ≡ list_all change_within l.changes
