-- What the store holds behind the lines of the blocks.
use Rattle.std.specs.Prelude.{◌≡◌, ◌⊎◌, ℕ, List, [], ◌∷◌, ◌++◌, Contains, take, Option}
use Rattle.ledger_model.specs.declared.block.Block.{Block}
use Rattle.ledger_model.specs.Damages.{Undamaged}
use Rattle.ledger_model.specs.Journal.{line}
use Rattle.laws_history.specs.Stores.{HoldsBehind, Holding}
pub use Rattle.laws_history.specs.Tried.{tried_behind, tried_in}

-- It is nothing; or a part of the line of one of these blocks, perhaps none of it or all, and that block is undamaged
-- there; or what stood there at first, where no block was sealed since.
abbrev pub HoldsRest : (first now : Option (List ℕ)) → (opened blocks tried : List Block) → Type 0
HoldsRest first now opened blocks tried =
    Holding blocks now
    ⊎ ((b : Block) × (kept : ℕ) × Contains tried b × HoldsBehind blocks (take kept (line b)) now
    × Undamaged (blocks ++ b ∷ []))
    ⊎ ((blocks ≡ opened) × (now ≡ first))
