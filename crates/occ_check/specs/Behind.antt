-- What a block touches, as the state behind all blocks tells it: there stand the names of all tables and all
-- revisions of a document, the one before the block's own among them. Its content is taken from its own block, since a
-- later block may have redacted it.
use Rattle.std.specs.Prelude.{ℕ, ◌-◌, ◌==◌, ◌&&◌, ◌||◌, Bool, false, List, slice_get, Option, Some, None, option_and_then, if◌then◌else◌}
use Rattle.std.specs.List.{find, list_any}
use Rattle.std.specs.Str.{bytes_eq}
use Rattle.ion_values.specs.declared.value.Key.{Key}
use Rattle.ion_values.specs.declared.value.Value.{Value}
use Rattle.ledger_model.specs.declared.block.Block.{Block}
use Rattle.ledger_model.specs.declared.block.Revision.{Revision}
use Rattle.ledger_model.specs.declared.block.Schema.{Schema}
use Rattle.ledger_model.specs.declared.block.Schema.TheVariants.{Create, Index, Drop, Redact}
use Rattle.ledger_model.specs.declared.outcome.Item.{Item}
use Rattle.ledger_model.specs.declared.outcome.Item.TheVariants as item
use Rattle.ledger_model.specs.State.{Recorded, State, Table}
use Rattle.laws_footprint.specs.Following.{is_of, is_of_document}
use Rattle.laws_footprint.specs.Touches.{has_key_in, kept, redacts_document, redacts_in, revisions_in, touches_list}
use Rattle.versions.specs.Histories.{revisions_of}
use Rattle.versions.specs.Lookups.{name_of}

-- ---- a block's changes of the schema

abbrev pub is_name : List ℕ → Option (List ℕ) → Bool
is_name name None = false
is_name name (Some made) = bytes_eq made name

-- an index touches the name with which its table was made
abbrev pub changes_name : List Table → List ℕ → Schema → Bool
changes_name tables name (Create n id) = bytes_eq n name
changes_name tables name (Index field id) = is_name name (name_of tables id)
changes_name tables name (Drop n id) = bytes_eq n name
changes_name tables name (Redact address id document) = false

abbrev pub change_touches : List Table → Item → Schema → Bool
change_touches tables (item.TableName name) c = changes_name tables name c
change_touches tables item.TableList c = touches_list c
change_touches tables (item.Table table) c = redacts_in table c
change_touches tables (item.Doc table id) c = redacts_document table id.raw c
change_touches tables (item.IndexValue table field k) c = false

-- ---- a block's revisions

-- the revision as its block has it
abbrev pub stored : List Block → Revision → Option Revision
stored blocks r =
    option_and_then (λ b. find (λ x. x.metadata.id.raw == r.metadata.id.raw) b.revisions)
    (slice_get blocks r.address.sequence)

-- the document's revision of the version before
abbrev pub earlier : List Block → State → ℕ → ℕ → Option Revision
earlier blocks now id version =
    if version == 0 then None else option_and_then (λ r. stored blocks r.revision)
    (slice_get (revisions_of now.revisions id) (version - 1))

abbrev pub content_of : Option Revision → Option Value
content_of None = None
content_of (Some r) = kept r.content

-- its document had the key before it, or has it with it
abbrev pub changes_key : List Block → State → List ℕ → Key → Revision → Bool
changes_key blocks now field k r =
    has_key_in field k (content_of (earlier blocks now r.metadata.id.raw r.metadata.version))
    || has_key_in field k (kept r.content)

abbrev pub revision_touches : List Block → State → Item → Recorded → Bool
revision_touches blocks now (item.TableName name) r = false
revision_touches blocks now item.TableList r = false
revision_touches blocks now (item.Table table) r = is_of table r
revision_touches blocks now (item.Doc table id) r = is_of_document table id.raw r
revision_touches blocks now (item.IndexValue table field k) r =
    is_of table r && changes_key blocks now field k r.revision

-- ---- a block

abbrev pub block_touches : List Block → State → Block → Item → Bool
block_touches blocks now b i =
    list_any (change_touches now.tables i) b.info.schema || list_any (revision_touches blocks now i) (revisions_in b)
