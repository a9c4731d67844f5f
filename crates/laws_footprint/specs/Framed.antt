-- The frame: what a statement, and a whole transaction, does at a state it does at a later one, where no block
-- between them touches what it reads.
use Rattle.std.specs.Prelude.{◌≡◌, ◌⊎◌, ◌==◌, ℕ, Bool, true, false, List, [], ◌∷◌, ◌++◌, drop, map, option_map, take, None, Ok, Some}
use Rattle.std.specs.List.{AllByRecursion, cons_option, filter, flat_map, list_any}
use Rattle.ion_values.specs.declared.value.Value.{Value}
use Rattle.ql_types.specs.declared.TableId.{TableId}
use Rattle.pql_model.specs.declared.statement.FromClause.{FromClause}
use Rattle.pql_model.specs.declared.statement.SourceKind.{SourceKind}
use Rattle.pql_model.specs.declared.statement.Statement.{Statement}
use Rattle.pql_model.specs.declared.tables.Row.{Row}
use Rattle.pql_model.specs.From.{Viewed, rows_given, rows_of}
use Rattle.pql_model.specs.Parse.{parsed}
use Rattle.ledger_model.specs.declared.block.Block.{Block}
use Rattle.ledger_model.specs.declared.block.Draft.{Draft}
use Rattle.ledger_model.specs.declared.outcome.Item.{Item}
use Rattle.ledger_model.specs.declared.outcome.Item.TheVariants as item
use Rattle.ledger_model.specs.declared.script.Request.{Request}
use Rattle.ledger_model.specs.Footprints.{Read, Schemas, footprint_of, names_read, read_by_sources, sources_read}
use Rattle.ledger_model.specs.Legal.{Means}
use Rattle.ledger_model.specs.Run.{Begun, Progress, effect_of, ran, run, schemas_now, table_now, views_of}
use Rattle.ledger_model.specs.State.{Indexed, State, draft_of, empty, state}
use Rattle.ledger_model.specs.Statements.{table_in}
use Rattle.laws_footprint.specs.Covered.{AllFitKind, fits_kind, is_known, is_read_by, reads_by}
use Rattle.laws_footprint.specs.Own.{AllCreated, AllFollow, IdsFit, StandsInNone, is_by}
use Rattle.laws_footprint.specs.Restriction.{Covers}
use Rattle.laws_footprint.specs.Stillness.{block_revises}
use Rattle.laws_footprint.specs.Touches.{conflict}

-- a pending change is of the transaction's own document, or of one of which no later block has a revision, as those
-- are that the rows of its earlier statements named before
abbrev pub IsSettled : ℕ → ℕ → List Block → Draft → Type 0
IsSettled mask n later d = (is_by mask n d.id.raw ≡ true) ⊎ (list_any (block_revises d.id.raw) later ≡ false)

-- the blocks follow one another, none of them is this transaction's, and what it has changed and created is settled
-- behind its base
pub record Beside (mask n : ℕ) (blocks : List Block) (since : ℕ) (p : Progress) : Type 0 where
  pub follow : AllFollow mask empty blocks
  pub number : StandsInNone mask n blocks
  pub documents : AllByRecursion (IsSettled mask n (drop since blocks)) p.log
  pub tables : AllCreated mask n p.schema
  pub fit : IdsFit (map draft_of (state blocks).revisions)
  pub own_fit : IdsFit p.log

-- the indexes of a table in order
abbrev pub is_index_of : TableId → Indexed → Bool
is_index_of table i = i.table.raw == table.raw

abbrev pub indexes_of : TableId → List Indexed → List Indexed
indexes_of table indexes = filter (is_index_of table) indexes

-- a name whose item isn't touched names the same table, with the same indexes
abbrev pub NameIsFramed : Type 0
NameIsFramed =
    (mask n : ℕ) (blocks : List Block) (since : ℕ) (p : Progress) (name : List ℕ)
    → Beside mask n blocks since p → conflict blocks since (item.TableName name ∷ []) ≡ None
    → (table_now (state blocks) p name ≡ table_now (state (take since blocks)) p name)
    × ((table : TableId) → table_now (state (take since blocks)) p name ≡ Some table
    → indexes_of table (schemas_now (state blocks) p).indexes
    ≡ indexes_of table (schemas_now (state (take since blocks)) p).indexes)

-- the rows of a table source that meet one of the items are equal, if neither the name of its table nor any
-- item is touched: of a user view, a committed view or a history
abbrev pub rows_read_of : Schemas → List Item → Viewed → List Value → SourceKind → List Row
rows_read_of now items views params kind = filter (is_read_by now kind items) (rows_given views params kind)

abbrev pub SourceIsStill : Type 0
SourceIsStill =
    (mask n : ℕ) (blocks : List Block) (since : ℕ) (p : Progress) (params : List Value) (kind : SourceKind)
    (items : List Item) → Beside mask n blocks since p → fits_kind kind items ≡ true
    → conflict blocks since (cons_option (option_map item.TableName (table_in kind)) items) ≡ None
    → rows_read_of (schemas_now (state (take since blocks)) p) items (views_of (state blocks) p) params kind
    ≡ rows_read_of (schemas_now (state (take since blocks)) p) items
    (views_of (state (take since blocks)) p) params kind

-- what a FROM reads
abbrev pub read_by : State → Progress → List Value → FromClause → List Item
read_by s p params from = read_by_sources (schemas_now s p) (views_of s p) params from

-- of each source
abbrev pub reads_at : State → Progress → List Value → FromClause → List Read
reads_at s p params from = sources_read (schemas_now s p) (views_of s p) params from

-- a FROM gives the same rows, and reads the same items and the same rows of each source
abbrev pub RowsAreFramed : Type 0
RowsAreFramed =
    (mask n : ℕ) (blocks : List Block) (since : ℕ) (p : Progress) (params : List Value) (from : FromClause)
    → Beside mask n blocks since p
    → conflict blocks since (read_by (state (take since blocks)) p params from) ≡ None
    → (rows_of (views_of (state blocks) p) params from
    ≡ rows_of (views_of (state (take since blocks)) p) params from)
    × (reads_at (state blocks) p params from ≡ reads_at (state (take since blocks)) p params from)

-- any items of the sources serve that cover what the conditions need, beside the names of the tables
abbrev pub CoveredRowsAreFramed : Type 0
CoveredRowsAreFramed =
    (mask n : ℕ) (blocks : List Block) (since : ℕ) (p : Progress) (params : List Value) (from : FromClause)
    (own : List (List Item)) → Beside mask n blocks since p
    → AllFitKind from.sources own
    → Covers (views_of (state (take since blocks)) p) params from is_known
    (reads_by (schemas_now (state (take since blocks)) p) from.sources own)
    → Covers (views_of (state blocks) p) params from is_known
    (reads_by (schemas_now (state (take since blocks)) p) from.sources own)
    → conflict blocks since (names_read from.sources ++ flat_map (λ items. items) own) ≡ None
    → rows_of (views_of (state blocks) p) params from ≡ rows_of (views_of (state (take since blocks)) p) params from

-- of a statement that is read: its answer, its effects, its footprint, or why it is refused
abbrev pub StatementIsFramed : Type 0
StatementIsFramed =
    (b : Begun) (blocks : List Block) (since : ℕ) (p : Progress) (text : List ℕ) (params : List Value) (st : Statement)
    → parsed text ≡ Ok st → Beside b.mask b.number blocks since p
    → conflict blocks since (footprint_of (schemas_now (state (take since blocks)) p)
    (views_of (state (take since blocks)) p) params st) ≡ None
    → effect_of b (state blocks) p params st ≡ effect_of b (state (take since blocks)) p params st

-- all its answers, effects and footprints
abbrev pub TransactionIsFramed : Type 0
TransactionIsFramed =
    (b : Begun) (blocks : List Block) (since : ℕ) (asked : List Request) (p : Progress)
    → run b (state (take since blocks)) asked ≡ ran p → Beside b.mask b.number blocks since p
    → conflict blocks since p.footprint ≡ None
    → run b (state blocks) asked ≡ ran p

-- so a block that is what its transaction means on its base is what it means behind the later blocks
abbrev pub MeaningIsKept : Type 0
MeaningIsKept =
    (mask : ℕ) (blocks : List Block) (since : ℕ) (b : Block) (m : Means mask (state (take since blocks)) b)
    → Beside mask m.number blocks since m.progress → conflict blocks since m.progress.footprint ≡ None
    → Means mask (state blocks) b
