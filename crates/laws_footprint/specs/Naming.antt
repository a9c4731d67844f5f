-- The documents that a statement's rows name: later blocks that touch nothing of its footprint have no revision of
-- them. So they may be changed by the transaction, and stillness holds with these changes pending.
use Rattle.std.specs.Prelude.{◌≡◌, ◌⊎◌, ℕ, ◌==◌, Bool, true, false, List, map, take, drop, None, Option, Some}
use Rattle.std.specs.List.{AllByRecursion, list_all, list_any}
use Rattle.ion_values.specs.declared.value.Value.{Value}
use Rattle.ql_types.specs.declared.DocId.{DocId}
use Rattle.pql_model.specs.declared.scope.Bound.{Bound}
use Rattle.pql_model.specs.declared.statement.FromClause.{FromClause}
use Rattle.pql_model.specs.declared.statement.Source.{Source}
use Rattle.pql_model.specs.From.{rows_of}
use Rattle.ledger_model.specs.declared.block.Block.{Block}
use Rattle.ledger_model.specs.declared.block.Draft.{Draft}
use Rattle.ledger_model.specs.Run.{Progress, views_of}
use Rattle.ledger_model.specs.State.{draft_of, empty, state}
use Rattle.laws_footprint.specs.Covered.{is_no_history}
use Rattle.laws_footprint.specs.Framed.{read_by}
use Rattle.laws_footprint.specs.Own.{AllFollow, IdsFit}
use Rattle.laws_footprint.specs.Stillness.{block_revises}
use Rattle.laws_footprint.specs.Touches.{conflict}

-- a change of the document is pending
abbrev pub is_pending : ℕ → List Draft → Bool
is_pending id pending = list_any (λ (d : Draft). d.id.raw == id) pending

-- no later block has a revision of the document, where no change of it is pending
abbrev pub IsUnrevised : List Block → List Draft → Option DocId → Type 0
IsUnrevised later pending None = Unit {0}
IsUnrevised later pending (Some id) = is_pending id.raw pending ≡ false → list_any (block_revises id.raw) later ≡ false

-- no source is a history, or the blocks follow one another, so that no document moves to another table
abbrev pub StayInTables : ℕ → List Block → List Source → Type 0
StayInTables mask blocks sources =
    (list_all (λ (s : Source). is_no_history s.from) sources ≡ true) ⊎ AllFollow mask empty blocks

abbrev pub NamedAreUnrevised : Type 0
NamedAreUnrevised =
    (mask : ℕ) (blocks : List Block) (since : ℕ) (p : Progress) (params : List Value) (from : FromClause)
    → StayInTables mask blocks from.sources
    → IdsFit (map draft_of (state (take since blocks)).revisions) → IdsFit p.log
    → conflict blocks since (read_by (state (take since blocks)) p params from) ≡ None
    → AllByRecursion (λ c. AllByRecursion (λ (b : Bound). IsUnrevised (drop since blocks) p.log b.id) c)
    (rows_of (views_of (state (take since blocks)) p) params from)
