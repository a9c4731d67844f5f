-- The logic of three values (PartiQL, logical operators): true, false, and NULL for all else, MISSING included.
use Rattle.std.specs.Prelude.{Bool, true, false, not, ◌&&◌, ◌||◌, if◌then◌else◌}
use Rattle.std.specs.declared.option.Option.{Option}
use Rattle.std.specs.declared.option.Option.TheVariants.{None, Some}
use Rattle.ion_values.specs.declared.value.Value.{Value}
use Rattle.ion_values.specs.declared.value.Body.TheOpen.{Body-F}
use Rattle.pql_model.specs.declared.scope.Evaluated.{Evaluated}
use Rattle.pql_model.specs.declared.scope.Evaluated.TheVariants.{Missing, Found}
use Rattle.pql_model.specs.Made.{Seen, seen, truth, null}

abbrev pub truth_seen : Seen → Option Bool
truth_seen (Body-F.Bool b) = Some b
truth_seen _ = None

abbrev pub truth_of : Value → Option Bool
truth_of v = truth_seen (seen v)

-- true or false, and None for all else
abbrev pub truth_in : Evaluated → Option Bool
truth_in Missing = None
truth_in (Found v) = truth_of v

abbrev pub is_true : Option Bool → Bool
is_true None = false
is_true (Some b) = b

abbrev pub is_false : Option Bool → Bool
is_false None = false
is_false (Some b) = not b

-- false where a side is false, true where both are true, else NULL
abbrev pub conjunction : Option Bool → Option Bool → Evaluated
conjunction a b =
    if is_false a || is_false b then truth false else if is_true a && is_true b then truth true else null

-- true where a side is true, false where both are false, else NULL
abbrev pub disjunction : Option Bool → Option Bool → Evaluated
disjunction a b =
    if is_true a || is_true b then truth true else if is_false a && is_false b then truth false else null

-- swaps true and false, and is NULL for all else
abbrev pub negation : Option Bool → Evaluated
negation a = if is_true a then truth false else if is_false a then truth true else null
