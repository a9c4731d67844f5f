-- Comparisons (PartiQL, comparison operators; which kinds compare, and how, is the ledger's own): MISSING where a
-- side is MISSING, else NULL where a side is null, else what the two values say.
use Rattle.std.specs.Prelude.{Bool, true, false, ◌&&◌, ◌||◌, if◌then◌else◌}
use Rattle.std.specs.Option.{option_map_or}
use Rattle.std.specs.declared.cmp.Ordering.{Ordering}
use Rattle.std.specs.Ordering.{is_le, is_ge}
use Rattle.ion_values.specs.Equivalent.{is_equivalent}
use Rattle.ion_values.specs.declared.value.Value.{Value}
use Rattle.ion_values.specs.declared.value.Body.TheOpen.{Body-F}
use Rattle.ion_order.specs.Compare.{compare_of}
use Rattle.ion_order.specs.Laws.{is_tie}
use Rattle.pql_model.specs.declared.scope.Evaluated.{Evaluated}
use Rattle.pql_model.specs.declared.scope.Evaluated.TheVariants.{Missing, Found}
use Rattle.pql_model.specs.Made.{Seen, seen, truth, null, is_null}

-- MISSING where a side is MISSING, else NULL where one is null, else what the operator gives
abbrev pub of_both : (Value → Value → Evaluated) → Evaluated → Evaluated → Evaluated
of_both op Missing right = Missing
of_both op (Found v) Missing = Missing
of_both op (Found v) (Found w) = if is_null v || is_null w then null else op v w

abbrev pub is_container_seen : Seen → Bool
is_container_seen (Body-F.List values) = true
is_container_seen (Body-F.Sexp values) = true
is_container_seen (Body-F.Struct fields) = true
is_container_seen _ = false

abbrev pub is_container : Value → Bool
is_container v = is_container_seen (seen v)

-- scalars that compare as equal, and containers that are equivalent
unfoldable pub are_equal : Value → Value → Bool
are_equal v w = is_tie v w || (is_container v && is_container w && is_equivalent v w)

-- whether the two stand in the order, and MISSING where they don't compare
unfoldable pub in_order : (Ordering → Bool) → Value → Value → Evaluated
in_order holds v w = option_map_or (λ o. truth (holds o)) (compare_of v w) Missing

abbrev pub equal : Evaluated → Evaluated → Evaluated
equal = of_both (λ v w. truth (are_equal v w))

abbrev pub at_most : Evaluated → Evaluated → Evaluated
at_most = of_both (in_order is_le)

abbrev pub at_least : Evaluated → Evaluated → Evaluated
at_least = of_both (in_order is_ge)
