-- What of a footprint a block touches, and the first block that touches any of it (the ledger's own rule). What a
-- document was before the block counts as well as what it is after it, so that rows which appear, change or leave are
-- seen alike.
use Rattle.std.specs.Prelude.{ℕ, ◌+◌, ◌==◌, ◌&&◌, ◌||◌, Bool, true, false, List, [], ◌∷◌, take, drop, slice_get, Option, Some, None}
use Rattle.std.specs.List.{find, list_any}
use Rattle.std.specs.Option.{option_map_or}
use Rattle.std.specs.Str.{bytes_eq}
use Rattle.ion_values.specs.declared.value.Key.{Key}
use Rattle.ion_values.specs.declared.value.Value.{Value}
use Rattle.ql_types.specs.declared.TableId.{TableId}
use Rattle.pql_model.specs.Steps.{field_of}
use Rattle.pql_model.specs.Tables.{has_key, key_in}
use Rattle.ledger_model.specs.declared.block.Block.{Block}
use Rattle.ledger_model.specs.declared.block.Content.{Content}
use Rattle.ledger_model.specs.declared.block.Content.TheVariants.{Deleted, Kept, Redacted}
use Rattle.ledger_model.specs.declared.block.Schema.{Schema}
use Rattle.ledger_model.specs.declared.block.Schema.TheVariants.{Create, Index, Drop, Redact}
use Rattle.ledger_model.specs.declared.outcome.Item.{Item}
use Rattle.ledger_model.specs.declared.outcome.Item.TheVariants as item
use Rattle.ledger_model.specs.declared.outcome.Named.{Named}
use Rattle.ledger_model.specs.Follows.{latest_of}
use Rattle.ledger_model.specs.State.{Recorded, State, Table, after, changed, recorded_in, state}

-- ---- a document at a state

abbrev pub id_of : Recorded → ℕ
id_of r = r.revision.metadata.id.raw

abbrev pub kept : Content → Option Value
kept Deleted = None
kept (Kept v) = Some v
kept (Redacted hash) = None

abbrev pub content_in : Option Recorded → Option Value
content_in None = None
content_in (Some r) = kept r.revision.content

-- a deleted or absent content has no key
abbrev pub has_key_in : List ℕ → Key → Option Value → Bool
has_key_in field k None = false
has_key_in field k (Some v) = has_key k (key_in (field_of field v))

-- the first field of that name of the document's content has that key
abbrev pub has_key_at : State → List ℕ → Key → ℕ → Bool
has_key_at s field k id = has_key_in field k (content_in (latest_of s.revisions id))

abbrev pub is_in : TableId → Option Recorded → Bool
is_in table None = false
is_in table (Some r) = r.table.raw == table.raw

-- ---- what a block's revisions touch

abbrev pub revisions_in : Block → List Recorded
revisions_in b = recorded_in b.info.tables b.revisions

-- a revision of a document of the table; one that would move the document to another table is of both
abbrev pub is_of_table : State → TableId → Recorded → Bool
is_of_table s table r = is_in table (Some r) || is_in table (latest_of s.revisions (id_of r))

abbrev pub touches_document : State → TableId → ℕ → Recorded → Bool
touches_document s table id r = is_of_table s table r && (id_of r == id)

-- had that key before the block, or has it after it
abbrev pub touches_key : State → State → TableId → List ℕ → Key → Recorded → Bool
touches_key before now table field k r =
    is_of_table before table r && (has_key_at before field k (id_of r) || has_key_at now field k (id_of r))

-- ---- what a block's changes of the schema touch

-- the active table of that name has that id (where no two active tables have one name)
abbrev pub has_name : List Table → List ℕ → TableId → Bool
has_name tables name id = list_any (λ t. t.active && bytes_eq t.name name && (t.id.raw == id.raw)) tables

-- a table of that name is created or dropped, or an index made on the active table of that name
abbrev pub change_touches_name : List Table → List ℕ → Schema → Bool
change_touches_name tables name (Create n id) = bytes_eq n name
change_touches_name tables name (Index field id) = has_name tables name id
change_touches_name tables name (Drop n id) = bytes_eq n name || has_name tables name id
change_touches_name tables name (Redact address id document) = false

-- in order, each change on the tables that the earlier ones leave
abbrev pub touches_name : List Table → List ℕ → List Schema → Bool
touches_name tables name [] = false
touches_name tables name (c ∷ cs) = change_touches_name tables name c || touches_name (changed tables c) name cs

-- a table is created or dropped
abbrev pub touches_list : Schema → Bool
touches_list (Create n id) = true
touches_list (Index field id) = false
touches_list (Drop n id) = true
touches_list (Redact address id document) = false

-- ---- what a block redacts

-- a revision in the table
abbrev pub redacts_in : TableId → Schema → Bool
redacts_in table (Redact address t document) = t.raw == table.raw
redacts_in table _ = false

-- a revision of the document
abbrev pub redacts_document : TableId → ℕ → Schema → Bool
redacts_document table id (Redact address t document) = (t.raw == table.raw) && (document.raw == id)
redacts_document table id _ = false

-- ---- items, and the first conflict

-- whether the block behind this state touches the item
abbrev pub touched : State → Block → Item → Bool
touched s b (item.TableName name) = touches_name s.tables name b.info.schema
touched s b item.TableList = list_any touches_list b.info.schema
touched s b (item.Table table) =
    list_any (is_of_table s table) (revisions_in b) || list_any (redacts_in table) b.info.schema
touched s b (item.Doc table id) =
    list_any (touches_document s table id.raw) (revisions_in b)
    || list_any (redacts_document table id.raw) b.info.schema
touched s b (item.IndexValue table field k) = list_any (touches_key s (after s b) table field k) (revisions_in b)

-- whether block m touches the item, where there is a block m
abbrev pub touches : List Block → ℕ → Item → Bool
touches blocks m i = option_map_or (λ b. touched (state (take m blocks)) b i) (slice_get blocks m) false

-- the block of this number with the item, or else what later blocks touch
abbrev pub named_or : ℕ → Option Item → Option Named → Option Named
named_or m None later = later
named_or m (Some i) later = Some (record { block = m; item = i })

-- the first of these blocks, counted from m behind a state, that touches an item, with the first such item
abbrev pub conflict_from : ℕ → State → List Block → List Item → Option Named
conflict_from m s [] items = None
conflict_from m s (b ∷ bs) items = named_or m (find (touched s b) items) (conflict_from (m + 1) (after s b) bs items)

-- the first block from `since` on that touches an item of the footprint, with the first such item
abbrev pub conflict : List Block → ℕ → List Item → Option Named
conflict blocks since footprint = conflict_from since (state (take since blocks)) (drop since blocks) footprint
