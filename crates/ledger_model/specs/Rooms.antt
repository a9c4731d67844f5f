-- The blocks of a journal as a program keeps them.
use Rattle.std.specs.Prelude.{ℕ, List}
use Rattle.ledger_model.specs.declared.block.Block.{Block}

-- the blocks in order, and for how many more there is room already
pub record Kept : Type 0 where
  pub list : List Block
  pub spare : ℕ
