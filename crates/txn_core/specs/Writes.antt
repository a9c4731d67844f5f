-- What a statement writes: tables, as its text names them, and documents, each with one revision in a transaction.
use Rattle.std.specs.Prelude.{◌≡◌, ℕ, ◌||◌, Bool, true, nat_eq, nat_lt, List, [], length, map, Option, Some, None, is_some, Result, Ok, Err, if◌then◌else◌}
use Rattle.std.specs.List.{list_any}
use Rattle.std.specs.Map.{lookup}
use Rattle.ion_values.specs.declared.value.Value.{Value}
use Rattle.pql_model.specs.declared.statement.FromClause.{FromClause}
use Rattle.pql_model.specs.declared.tables.Row.{Row}
use Rattle.pql_model.specs.From.{Combined, rows_of}
use Rattle.ql_types.specs.declared.DocId.{DocId}
use Rattle.ledger_model.specs.declared.block.Content.{Content}
use Rattle.ledger_model.specs.declared.block.Content.TheVariants.{Deleted, Kept}
use Rattle.ledger_model.specs.declared.block.Draft.{Draft}
use Rattle.ledger_model.specs.declared.outcome.Refusal.{Refusal}
use Rattle.ledger_model.specs.Follows.{is_kept}
use Rattle.ledger_model.specs.Progress.{not_kept}
use Rattle.ledger_model.specs.Run.{tables_now}
use Rattle.ledger_model.specs.State as state
use Rattle.ledger_model.specs.Views.{latest}
use Rattle.ledger_model.specs.Writing.{has_room_for, is_at, no_room, touching}
use Rattle.versions.specs.Held.{table_of}
use Rattle.txn_core.specs.declared.roots.Written.{Written}
use Rattle.txn_core.specs.declared.roots.Written.TheVariants as written
use Rattle.txn_core.specs.declared.stopped.ExecuteFault.{ExecuteFault}
use Rattle.txn_core.specs.declared.touching.Mark.{Mark}
use Rattle.txn_core.specs.declared.touching.Touching.{Touching}
use Rattle.txn_core.specs.Effects.{both, effect_of}
use Rattle.txn_core.specs.Inserts.{so_far, without}
use Rattle.txn_core.specs.Opened.{Opened}
use Rattle.txn_core.specs.Selects.{first_absent_in}
use Rattle.txn_core.specs.Stops.{StopsFor}
use Rattle.txn_core.specs.TableViews.{views_among}

-- ---- tables

-- whether a statement writes the source of this place
abbrev pub writes : Written → ℕ → Bool
writes written.All n = true
writes (written.Roots roots) n = list_any (is_at n) roots

-- ---- rows

-- the rows of a FROM over a state and documents with their latest revisions, or why there are none
abbrev pub rows_seen : List state.Table → state.State → List Draft → List Value → FromClause →
    Result (List Combined) Refusal
rows_seen tables base documents params from =
    without (first_absent_in tables from.sources) (Ok (rows_of (views_among tables base documents) params from))

-- ---- documents

-- what is known of a document by its revision that pends
abbrev pub mark_of : Draft → Mark
mark_of d = record { table = d.table; version = d.version; live = is_kept d.content }

-- by its id
abbrev pub marked : Draft → ℕ × Mark
marked d = (d.id.raw, mark_of d)

-- the documents that revisions are of, in order of first touch
abbrev pub marks_of : List Draft → List (ℕ × Mark)
marks_of log = map marked (latest log)

abbrev pub has_room_in : List (ℕ × Mark) → DocId → Bool
has_room_in marks id = is_some (lookup (nat_eq id.raw) marks) || nat_lt (length marks) 40

-- the revision that pends, with another content; a document that is deleted gets none
abbrev pub again_by : Content → DocId → Mark → Option Draft
again_by c id m = if m.live then Some (record { table = m.table; id = id; version = m.version; content = c }) else None

-- what is held of a statement is what the transaction has touched by then
pub record Stands (t : Opened) (now : Touching) : Type 0 where
  pub tables : map table_of now.tables.items ≡ tables_now t.base t.done
  pub marks : now.marks.entries ≡ marks_of (so_far t (effect_of now.effect)).log
  pub schema : (effect_of now.effect).schema ≡ []

-- the document is touched behind those before
pub record Touches (t : Opened) (id : DocId) (c : Content) (before now : Touching) : Type 0 where
  pub stands : Stands t now
  pub effect : effect_of now.effect ≡ both (effect_of before.effect)
      (touching t.base (so_far t (effect_of before.effect)) id c)

-- why the document isn't given its content
abbrev pub not_changed : Opened → Row → Touching → Option Refusal
not_changed t d before = not_kept (has_room_for (so_far t (effect_of before.effect)) d.id) d.value

abbrev pub Changes : Opened → Row → Touching → Result (Unit {0}) ExecuteFault → Touching → Type 0
Changes t d before (Ok done) now = (not_changed t d before ≡ None) × Touches t d.id (Kept d.value) before now
Changes t d before (Err stopped) now = StopsFor stopped (λ cause. not_changed t d before ≡ Some cause)

-- why the document isn't deleted
abbrev pub not_ended : Opened → DocId → Touching → Option Refusal
not_ended t id before = no_room (so_far t (effect_of before.effect)) id

abbrev pub Deletes : Opened → DocId → Touching → Result (Unit {0}) ExecuteFault → Touching → Type 0
Deletes t id before (Ok done) now = (not_ended t id before ≡ None) × Touches t id Deleted before now
Deletes t id before (Err stopped) now = StopsFor stopped (λ cause. not_ended t id before ≡ Some cause)
