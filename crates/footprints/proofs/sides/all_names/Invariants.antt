use Rattle.std.proofs.Common.{◌≡◌, List, ◌++◌, drop, map}
use Rattle.std.specs.Prelude.{option_map}
use Rattle.ion_values.specs.declared.value.Value.{Value}
use Rattle.ledger_model.specs.Conditions.{all_names}
use Rattle.footprints.specs.Lent.{texts}
use Rattle.footprints.specs.Sides.{step_of}
use Rattle.footprints.proofs.sides.all_names.Given as goal

-- the names so far in front of those of the rest are all names
abbrev pub invariant-steps : goal.invariant-steps
invariant-steps l =
    (params : List Value)
    → option_map (λ rest. texts l.names ++ rest) (all_names (map (step_of params) (drop l.step-index l.steps)))
    ≡ all_names (map (step_of params) l.steps)
