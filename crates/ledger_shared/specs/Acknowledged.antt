-- What a commit of the ledger leaves that is Ok: a block that no stop of the machine takes away, and its time.
use Rattle.std.specs.Prelude.{◌≡◌, ℕ, ℤ, false, List, [], ◌∷◌, ◌++◌, Option}
use Rattle.ledger_model.specs.declared.block.Block.{Block}
use Rattle.outside.specs.Told.{StoreTold}
use Rattle.laws_machine.specs.Entries.{Entry, sealed}
use Rattle.laws_history.specs.Seen.{blocks_in}
use Rattle.ledger_core.specs.Images.{IsAcknowledged, IsSoundTail}
use Rattle.ledger_core.specs.NextBlock.{receipt_of}
use Rattle.ledger_core.specs.Tails.{TailHeld}
use Rattle.ledger_core.specs.declared.appending.Receipt.{Receipt}
use Rattle.ledger_shared.specs.Behind.{HasTimeOf, IsRightFor, IsTimeOf, Keeps, opening_of}
use Rattle.ledger_shared.specs.Images.{marked_from}

module _ {S C : Type 0} (told : S → StoreTold) (answers : C → Option (List ℤ)) (always : C → Option ℤ)
    (opened : TailHeld S C) where
  -- every image recovers to the blocks alone, if the tail met the invariant when the ledger was made
  abbrev pub IsSafeNow : TailHeld S C → Type 0
  IsSafeNow tail = (first : List Block) → IsSoundTail told first opened → IsAcknowledged told tail

  -- The last entry is that of the receipt's block, and behind the turn stood a tail after these entries of which every
  -- image recovers to the blocks alone. The block's time is one that the clock had told by then.
  pub record KeepsBlock (receipt : Receipt) (es : List Entry) : Type 0 where
    pub front : List Entry
    pub number : ℕ
    pub block : Block
    pub es_are : es ≡ front ++ sealed number block ∷ []
    pub receipt_is : receipt ≡ receipt_of block
    pub tail : TailHeld S C
    pub keeps : Keeps told answers always opened tail es
    pub blocks_are : tail.standing.blocks ≡ blocks_in (opening_of told opened) front ++ block ∷ []
    pub safe : IsSafeNow tail
    pub time : HasTimeOf (IsTimeOf (always opened.clock) (answers opened.clock) (answers tail.clock))
        (blocks_in (opening_of told opened) front) block

  -- ---- laws

  -- so it is of each tail that may stand behind the turn after a block that was sealed, until a commit fails
  abbrev pub UnmarkedIsSafe : Type 0
  UnmarkedIsSafe =
      (tail : TailHeld S C) (es : List Entry) → Keeps told answers always opened tail es → IsRightFor told opened es
      → marked_from opened.marked es ≡ false → IsSafeNow tail
