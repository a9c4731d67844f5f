-- What the first conflict tells: that no block before it touches anything of the footprint, and that none at all does
-- where there is no conflict.
use Rattle.std.specs.Prelude.{◌≡◌, ◌≤◌, ◌<◌, ℕ, false, List, length, Option, None, Some}
use Rattle.std.specs.List.{AllByRecursion, find}
use Rattle.ledger_model.specs.declared.block.Block.{Block}
use Rattle.ledger_model.specs.declared.outcome.Item.{Item}
use Rattle.ledger_model.specs.declared.outcome.Named.{Named}
use Rattle.laws_footprint.specs.Touches.{conflict, touches}

-- block m touches none of the items
abbrev pub TouchesNone : List Block → List Item → ℕ → Type 0
TouchesNone blocks items m = AllByRecursion (λ i. touches blocks m i ≡ false) items

-- none of the blocks from `since` on and before `end` touches any
abbrev pub NoneTouches : List Block → List Item → ℕ → ℕ → Type 0
NoneTouches blocks items since end = (m : ℕ) → since ≤ m → m < end → TouchesNone blocks items m

-- it is a block from `since` on, the item is the first that it touches, and no block before touches any
pub record IsFirst (blocks : List Block) (since : ℕ) (items : List Item) (found : Named) : Type 0 where
  pub late : since ≤ found.block
  pub there : found.block < length blocks
  pub item : find (touches blocks found.block) items ≡ Some found.item
  pub first : NoneTouches blocks items since found.block

abbrev pub Tells : List Block → ℕ → List Item → Option Named → Type 0
Tells blocks since items None = NoneTouches blocks items since (length blocks)
Tells blocks since items (Some found) = IsFirst blocks since items found

abbrev pub ConflictIsFirst : Type 0
ConflictIsFirst =
    (blocks : List Block) (since : ℕ) (footprint : List Item)
    → Tells blocks since footprint (conflict blocks since footprint)
