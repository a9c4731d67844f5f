use Rattle.std.proofs.Common.{◌≡◌, drop}
use Rattle.std.specs.List.{list_any}
use Rattle.pql_model.specs.Comparisons.{is_container}
use Rattle.footprints.specs.Lent.{values_lent}
use Rattle.footprints.proofs.items.are_plain.Given as goal

-- none of the values passed is a container
abbrev pub invariant-values : goal.invariant-values
invariant-values l =
    list_any is_container (values_lent (drop l.value-index l.values)) ≡ list_any is_container (values_lent l.values)
