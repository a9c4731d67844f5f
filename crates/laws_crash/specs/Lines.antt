-- A front part of a line is no line (Ion 1.0 text: a value is written on one line, and a line feed ends it).
use Rattle.std.specs.Prelude.{◌≡◌, ℕ, ◌<◌, true, length, take}
use Rattle.ledger_model.specs.declared.block.Block.{Block}
use Rattle.ledger_model.specs.Journal.{line}
use Rattle.ledger_model.specs.Recovered.{has_no_line_feed}

-- a front part of a block's line that isn't all of it has no line feed
abbrev pub FrontsAreTorn : Type 0
FrontsAreTorn = (b : Block) (kept : ℕ) → kept < length (line b) → has_no_line_feed (take kept (line b)) ≡ true

-- so it is no block's line
abbrev pub NoFrontIsALine : Type 0
NoFrontIsALine = (b c : Block) (kept : ℕ) → kept < length (line b) → take kept (line b) ≡ line c → ⊥
