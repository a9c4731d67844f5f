-- Paths as sides of parts. What they are is the same whatever the parameters are.
use Rattle.std.specs.Prelude.{List, ℕ, Option}
use Rattle.ion_values.specs.declared.value.Value.{Value}
use Rattle.pql_model.specs.declared.expr.Expr.TheFolds.{fold-Path, fold-PathStep}
use Rattle.pql_model.specs.declared.expr.Path.{Path}
use Rattle.pql_model.specs.declared.expr.PathStep.{PathStep}
use Rattle.ledger_model.specs.Conditions.{Condition, Side, no_side, one_level, path_side as path_level, step_name}

-- the name of a step
abbrev pub step_of : List Value → PathStep → Option (List ℕ)
step_of params =
    fold-PathStep Condition (Option (List ℕ)) (Unit {0}) Side (one_level params) step_name no_side path_level

abbrev pub path_side : List Value → Path → Side
path_side params = fold-Path Condition (Option (List ℕ)) (Unit {0}) Side (one_level params) step_name no_side path_level
