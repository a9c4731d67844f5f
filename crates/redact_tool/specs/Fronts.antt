-- The blocks up to the last that redacts anything.
use Rattle.std.specs.Prelude.{ℕ, ◌+◌, List, [], ◌∷◌, if◌then◌else◌}
use Rattle.std.specs.List.{list_any}
use Rattle.ledger_model.specs.declared.block.Block.{Block}
use Rattle.ledger_model.specs.HashesAsked.{redacts_any}

-- how many they are
abbrev pub redacting_front : List Block → ℕ
redacting_front [] = 0
redacting_front (b ∷ later) = if list_any redacts_any (b ∷ later) then redacting_front later + 1 else 0
