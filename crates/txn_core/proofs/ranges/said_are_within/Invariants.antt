use Rattle.std.proofs.Common.{◌≡◌, drop}
use Rattle.std.specs.List.{list_all}
use Rattle.laws_validity.specs.Makes.{said_within}
use Rattle.txn_core.proofs.ranges.said_are_within.Given as goal

-- those in front are within
abbrev pub invariant-all : goal.invariant-all
invariant-all l = list_all said_within (drop l.said-index l.all) ≡ list_all said_within l.all
