-- What is known of a loaded journal besides its blocks.
use Rattle.std.specs.Prelude.{◌≡◌, ℕ, length}
use Rattle.ledger_model.specs.Journal.{journal_bytes}
use Rattle.ledger_model.specs.State.{state}
use Rattle.laws_history.specs.Standings.{Standing, IsStanding}
use Rattle.laws_history.specs.Records.{greatest, mask_of}
use Rattle.ledger_core.specs.declared.reload.Loaded.{Loaded}

abbrev pub standing_of : Loaded → Standing
standing_of l = record { mask = l.mask.bits; last = l.last; blocks = l.blocks.list }

-- the mask is that of the blocks or the given one, the last number the greatest of the blocks, the size that of their
-- lines, and the version is their state
pub record IsKnown (given : ℕ) (l : Loaded) : Type 0 where
  pub stands : IsStanding (standing_of l)
  pub mask : l.mask.bits ≡ mask_of given l.blocks.list
  pub last : l.last ≡ greatest l.mask.bits l.blocks.list
  pub size : l.size ≡ length (journal_bytes l.blocks.list)
  pub version : l.version ≡ state l.blocks.list
