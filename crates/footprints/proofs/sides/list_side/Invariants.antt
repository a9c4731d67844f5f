use Rattle.std.proofs.Common.{◌≡◌, ◌++◌, drop, map}
use Rattle.std.specs.Prelude.{option_map}
use Rattle.ledger_model.specs.Conditions.{all_constants, condition_of}
use Rattle.footprints.specs.Lent.{values_lent}
use Rattle.footprints.proofs.sides.list_side.Given as goal

-- the constants so far in front of those of the rest are all constants
abbrev pub invariant-members : goal.invariant-members
invariant-members l =
    option_map (λ rest. values_lent l.values ++ rest)
    (all_constants (map (condition_of l.params) (drop l.member-index l.members)))
    ≡ all_constants (map (condition_of l.params) l.members)
