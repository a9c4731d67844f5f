use Rattle.std.proofs.Common.{◌≡◌, ◌++◌, drop}
use Rattle.std.specs.List.{filter_map}
use Rattle.pql_model.specs.declared.tables.Row.{Row}
use Rattle.pql_model.specs.Steps.{field_of}
use Rattle.ledger_model.specs.Meets.{content_shown}
use Rattle.footprints.specs.Lent.{values_lent}
use Rattle.footprints.proofs.read.values_in.Given as goal

-- the values so far and those of the rest are all values
abbrev pub invariant-rows : goal.invariant-rows
invariant-rows l =
    values_lent l.values ++ filter_map (λ (row : Row). field_of l.field (content_shown l.read.source.now.from row.value))
    (drop l.row-index l.read.rows)
    ≡ filter_map (λ (row : Row). field_of l.field (content_shown l.read.source.now.from row.value)) l.read.rows
