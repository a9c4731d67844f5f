-- The place of a document among others: that of the first one with its id, counted from 0.
use Rattle.std.specs.Prelude.{ℕ, ◌+◌, ◌==◌, List, [], ◌∷◌, Option, Some, None, option_map, if◌then◌else◌}
use Rattle.ledger_model.specs.declared.block.Draft.{Draft}

abbrev pub place_in : List Draft → ℕ → Option ℕ
place_in [] id = None
place_in (d ∷ ds) id = if d.id.raw == id then Some 0 else option_map (λ at. at + 1) (place_in ds id)
