-- What a block touches that follows the state before it: there each document stays in its table, so that the tables
-- of the block's own revisions tell it.
use Rattle.std.specs.Prelude.{◌≡◌, ◌==◌, ◌&&◌, ◌||◌, ℕ, Bool, true, List}
use Rattle.std.specs.List.{list_any}
use Rattle.ion_values.specs.declared.value.Key.{Key}
use Rattle.ql_types.specs.declared.TableId.{TableId}
use Rattle.ledger_model.specs.declared.block.Block.{Block}
use Rattle.ledger_model.specs.declared.outcome.Item.{Item}
use Rattle.ledger_model.specs.declared.outcome.Item.TheVariants as item
use Rattle.ledger_model.specs.Follows.{follows}
use Rattle.ledger_model.specs.State.{Recorded, State, after}
use Rattle.laws_footprint.specs.Touches.{has_key_at, id_of, redacts_document, redacts_in, revisions_in, touched}

abbrev pub is_of : TableId → Recorded → Bool
is_of table r = r.table.raw == table.raw

abbrev pub is_of_document : TableId → ℕ → Recorded → Bool
is_of_document table id r = is_of table r && (id_of r == id)

abbrev pub changes_key : State → State → TableId → List ℕ → Key → Recorded → Bool
changes_key before now table field k r =
    is_of table r && (has_key_at before field k (id_of r) || has_key_at now field k (id_of r))

-- by the revisions' own tables
abbrev pub touched_by_tables : State → Block → Item → Bool
touched_by_tables s b (item.Table table) =
    list_any (is_of table) (revisions_in b) || list_any (redacts_in table) b.info.schema
touched_by_tables s b (item.Doc table id) =
    list_any (is_of_document table id.raw) (revisions_in b) || list_any (redacts_document table id.raw) b.info.schema
touched_by_tables s b (item.IndexValue table field k) =
    list_any (changes_key s (after s b) table field k) (revisions_in b)
touched_by_tables s b i = touched s b i

abbrev pub FollowingTouches : Type 0
FollowingTouches =
    (mask : ℕ) (s : State) (b : Block) (i : Item) → follows mask s b ≡ true → touched s b i ≡ touched_by_tables s b i
