-- The documents that a transaction inserts itself: their ids are made of its number, so blocks of other transactions
-- have no revision of them.
use Rattle.std.specs.Prelude.{◌≡◌, ℕ, ◌^◌, ◌==◌, Bool, nat_lt, true, false, List, [], ◌∷◌, take, drop, None}
use Rattle.std.specs.List.{AllByRecursion}
use Rattle.ql_types.specs.Ids.{transaction_in}
use Rattle.ql_types.specs.declared.TableId.{TableId}
use Rattle.ledger_model.specs.declared.block.Block.{Block}
use Rattle.ledger_model.specs.declared.block.Draft.{Draft}
use Rattle.ledger_model.specs.declared.outcome.Item.{Item}
use Rattle.ledger_model.specs.declared.block.Schema.{Schema}
use Rattle.ledger_model.specs.Follows.{created_ids, follows}
use Rattle.ledger_model.specs.State.{State, after, empty, state}
use Rattle.laws_footprint.specs.Stillness.{Apart, rows_met}
use Rattle.laws_footprint.specs.Touches.{conflict}

-- each block follows the state before it
abbrev pub AllFollow : ℕ → State → List Block → Type 0
AllFollow mask s [] = Unit {0}
AllFollow mask s (b ∷ bs) = (follows mask s b ≡ true) × AllFollow mask (after s b) bs

-- the id is made of the transaction's number
abbrev pub is_by : ℕ → ℕ → ℕ → Bool
is_by mask n id = transaction_in mask id == n

-- the number stands in none of the blocks
abbrev pub StandsInNone : ℕ → ℕ → List Block → Type 0
StandsInNone mask n blocks = AllByRecursion (λ (b : Block). is_by mask n b.header.tx.raw ≡ false) blocks

-- the transaction inserted each of the documents
abbrev pub AllOwn : ℕ → ℕ → List Draft → Type 0
AllOwn mask n pending = AllByRecursion (λ (d : Draft). is_by mask n d.id.raw ≡ true) pending

-- it created each of these tables
abbrev pub AllCreated : ℕ → ℕ → List Schema → Type 0
AllCreated mask n changes = AllByRecursion (λ id. is_by mask n id ≡ true) (created_ids changes)

-- the numbers of documents' ids fit 128 bits
abbrev pub IdsFit : List Draft → Type 0
IdsFit drafts = AllByRecursion (λ (d : Draft). nat_lt d.id.raw (2 ^ 128) ≡ true) drafts

abbrev pub OwnIsApart : Type 0
OwnIsApart =
    (mask n : ℕ) (blocks : List Block) (since : ℕ) (pending : List Draft)
    → AllFollow mask empty blocks → StandsInNone mask n blocks → AllOwn mask n pending
    → Apart (drop since blocks) pending

-- the law of stillness with the transaction's own insertions pending
abbrev pub StillnessOfOwn : Type 0
StillnessOfOwn =
    (mask n : ℕ) (blocks : List Block) (since : ℕ) (table : TableId) (items : List Item) (pending : List Draft)
    → AllFollow mask empty blocks → StandsInNone mask n blocks → AllOwn mask n pending
    → conflict blocks since items ≡ None
    → rows_met table items (state blocks) pending ≡ rows_met table items (state (take since blocks)) pending
