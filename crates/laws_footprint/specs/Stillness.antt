-- The law of stillness: blocks that touch no item of a list leave the rows of a user view that meet one of them as
-- they are, also with pending changes of documents of which the blocks have no revision.
use Rattle.std.specs.Prelude.{◌≡◌, ◌⊎◌, ℕ, ◌==◌, Bool, false, List, [], map, take, drop, Option, None, Some}
use Rattle.std.specs.List.{AllByRecursion, filter, list_any}
use Rattle.std.specs.Option.{option_map_or}
use Rattle.ql_types.specs.declared.TableId.{TableId}
use Rattle.pql_model.specs.declared.tables.Row.{Row}
use Rattle.ledger_model.specs.declared.block.Block.{Block}
use Rattle.ledger_model.specs.declared.block.Draft.{Draft}
use Rattle.ledger_model.specs.declared.outcome.Item.{Item}
use Rattle.ledger_model.specs.Follows.{latest_of}
use Rattle.ledger_model.specs.State.{Recorded, State, draft_of, state}
use Rattle.ledger_model.specs.Views.{row_of, user_view}
use Rattle.ledger_model.specs.Meets.{meets_one}
use Rattle.laws_footprint.specs.Touches.{conflict, id_of, revisions_in}

abbrev pub has_revision_of : ℕ → Recorded → Bool
has_revision_of id r = id_of r == id

abbrev pub block_revises : ℕ → Block → Bool
block_revises id b = list_any (has_revision_of id) (revisions_in b)

-- none of the blocks has a revision of a pending document
abbrev pub Apart : List Block → List Draft → Type 0
Apart later pending = AllByRecursion (λ d. list_any (block_revises d.id.raw) later ≡ false) pending

-- the rows of a table's user view at a state with pending changes that meet one of the items
abbrev pub rows_met : TableId → List Item → State → List Draft → List Row
rows_met table items s pending = filter (meets_one table items) (user_view table (map draft_of s.revisions) pending)

abbrev pub StillnessWithPending : Type 0
StillnessWithPending =
    (blocks : List Block) (since : ℕ) (table : TableId) (items : List Item) (pending : List Draft)
    → conflict blocks since items ≡ None → Apart (drop since blocks) pending
    → rows_met table items (state blocks) pending ≡ rows_met table items (state (take since blocks)) pending

abbrev pub Stillness : Type 0
Stillness =
    (blocks : List Block) (since : ℕ) (table : TableId) (items : List Item) → conflict blocks since items ≡ None
    → rows_met table items (state blocks) [] ≡ rows_met table items (state (take since blocks)) []

-- ---- document by document, for every view of the latest revisions

-- the latest revision of a document shows a row of the table that meets one of the items
abbrev pub is_met : TableId → List Item → Option Recorded → Bool
is_met table items None = false
is_met table items (Some r) = option_map_or (meets_one table items) (row_of table (draft_of r)) false

-- two states have the same latest revision of it, or it meets no item at either
abbrev pub IsStill : TableId → List Item → ℕ → State → State → Type 0
IsStill table items id before now =
    (latest_of now.revisions id ≡ latest_of before.revisions id)
    ⊎ ((is_met table items (latest_of before.revisions id) ≡ false)
    × (is_met table items (latest_of now.revisions id) ≡ false))

abbrev pub DocumentsAreStill : Type 0
DocumentsAreStill =
    (blocks : List Block) (since : ℕ) (table : TableId) (items : List Item) (id : ℕ)
    → conflict blocks since items ≡ None → IsStill table items id (state (take since blocks)) (state blocks)
