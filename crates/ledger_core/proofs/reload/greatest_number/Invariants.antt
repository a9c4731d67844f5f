use Rattle.std.proofs.Common.{◌≡◌, ◌^◌, ◌<◌, max, drop}
use Rattle.laws_history.specs.Records.{greatest}
use Rattle.ledger_core.proofs.reload.greatest_number.Given as goal

-- the greatest number so far and that of the rest are that of all
abbrev pub invariant-numbers : goal.invariant-numbers
invariant-numbers l = greatest l.mask.bits l.blocks < 2 ^ 64 → max l.last (greatest l.mask.bits (drop l.block-index l.blocks)) ≡ greatest l.mask.bits l.blocks
