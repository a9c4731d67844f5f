-- The blocks behind which a transaction becomes one more block, and what they tell of ids and versions.
use Rattle.std.specs.Prelude.{◌≡◌, ℕ, ◌-◌, ◌^◌, ◌<◌, ◌≤◌, Bool, true, List, [], ◌∷◌, length}
use Rattle.std.specs.List.{AllByRecursion, list_any}
use Rattle.ql_types.specs.Ids.{transaction_in}
use Rattle.ledger_model.specs.declared.block.Block.{Block}
use Rattle.ledger_model.specs.State.{state}
use Rattle.ledger_model.specs.Run.{Begun}
use Rattle.ledger_model.specs.Follows.{is_made_by}
use Rattle.ledger_model.specs.Damages.{Undamaged}

-- the strand of the blocks, where there is one, is that of the mask
abbrev pub HasStrand : ℕ → List Block → Type 0
HasStrand mask [] = Unit {0}
HasStrand mask (b ∷ bs) = b.header.address.strand.raw ≡ mask

-- no block is of the transaction of this number
abbrev pub IsUnused : ℕ → ℕ → List Block → Type 0
IsUnused mask number blocks = AllByRecursion (λ b. transaction_in mask b.header.tx.raw ≡ number → ⊥) blocks

-- The begun transaction can become a block behind these: they are undamaged and of its strand, there is room for one
-- more, and its number is one that none of them has.
pub record CanFollow (b : Begun) (blocks : List Block) : Type 0 where
  pub undamaged : Undamaged blocks
  pub strand : HasStrand b.mask blocks
  pub room : length blocks < 2 ^ 32 - 1
  pub unused : IsUnused b.mask b.number blocks
  pub first : 1 ≤ b.number
  pub counted : b.number < 2 ^ 64

-- ---- what undamaged blocks tell of their state

-- the transaction of one of these blocks made the thing of this id
abbrev pub is_made_in : ℕ → List Block → ℕ → Bool
is_made_in mask blocks id = list_any (λ b. is_made_by mask (transaction_in mask b.header.tx.raw) id) blocks

-- each id in the state was made by a transaction of these blocks, and the versions of a document are fewer than the
-- blocks
pub record AreMadeIn (mask : ℕ) (blocks : List Block) : Type 0 where
  pub tables : AllByRecursion (λ t. is_made_in mask blocks t.id.raw ≡ true) (state blocks).tables
  pub documents : AllByRecursion (λ r. is_made_in mask blocks r.revision.metadata.id.raw ≡ true)
      (state blocks).revisions
  pub versions : AllByRecursion (λ r. r.revision.metadata.version < length blocks) (state blocks).revisions
