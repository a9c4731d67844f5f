-- Which block had come to the store when an append failed.
use Rattle.std.specs.Prelude.{◌≡◌, Option, Some, None}
use Rattle.ledger_model.specs.declared.block.Block.{Block}
use Rattle.journal_keeper.specs.declared.keeping.SettleFault.{SettleFault}
use Rattle.journal_keeper.specs.declared.keeping.SettleFault.TheVariants as fault

-- the block's line had come to the store if that failed, and perhaps if memory ran out
abbrev pub IsTriedWith : Block → SettleFault → Option Block → Type 0
IsTriedWith b (fault.StoreFault count) None = ⊥
IsTriedWith b fault.OutOfMemory None = Unit {0}
IsTriedWith b other (Some tried) = tried ≡ b
