-- What a ledger stands for between two transactions.
use Rattle.std.specs.Prelude.{◌≡◌, ℕ, ◌+◌, ◌^◌, ◌<◌, ◌≤◌, List}
use Rattle.ledger_model.specs.declared.block.Block.{Block}
use Rattle.ledger_model.specs.Damages.{Undamaged}
use Rattle.ledger_model.specs.HashesAsked.{AreAsked}
use Rattle.ledger_model.specs.Run.{Begun}
use Rattle.laws_history.specs.Records.{greatest, mask_of}

-- the mask of the ids, the last number that was drawn or found, and the blocks
pub record Standing : Type 0 where
  pub mask : ℕ
  pub last : ℕ
  pub blocks : List Block

-- the blocks are undamaged, their hashes in place of data and of statements are asked for, they are of one strand, and
-- no number in them is above the last one
pub record IsStanding (s : Standing) : Type 0 where
  pub undamaged : Undamaged s.blocks
  pub asked : AreAsked s.blocks
  pub strand : mask_of s.mask s.blocks ≡ s.mask
  pub drawn : greatest s.mask s.blocks ≤ s.last
  pub counted : s.last < 2 ^ 64

-- the transaction of the next number
abbrev pub next : Standing → Begun
next s = record { mask = s.mask; number = s.last + 1 }
