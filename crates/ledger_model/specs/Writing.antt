-- What UPDATE, FROM with a change, and DELETE do to a transaction (Amazon QLDB's PartiQL; which refusals there are, and
-- their order, is the ledger's own). The rows stand as they were before the statement; each document that they name is
-- touched once.
use Rattle.std.specs.Prelude.{ℕ, ◌+◌, ◌==◌, ◌||◌, Bool, true, List, [], ◌∷◌, codes, Option, Some, None, is_some, Result, Ok, if◌then◌else◌}
use Rattle.std.specs.List.{find}
use Rattle.ion_values.specs.declared.value.Value.{Value}
use Rattle.ql_types.specs.declared.DocId.{DocId}
use Rattle.pql_model.specs.declared.statement.Change.{Change}
use Rattle.pql_model.specs.declared.statement.FromClause.{FromClause}
use Rattle.pql_model.specs.declared.statement.Source.{Source}
use Rattle.pql_model.specs.declared.statement.SourceKind.{SourceKind}
use Rattle.pql_model.specs.declared.statement.SourceKind.TheVariants as source
use Rattle.pql_model.specs.declared.tables.Row.{Row}
use Rattle.pql_model.specs.Effects.{changed_documents, deleted_documents}
use Rattle.pql_model.specs.From.{Combined, rows_of}
pub use Rattle.pql_model.specs.Roots.{is_at, is_root, place_by, root_place, targets}
use Rattle.ledger_model.specs.declared.block.Content.{Content}
use Rattle.ledger_model.specs.declared.block.Content.TheVariants.{Deleted, Kept}
use Rattle.ledger_model.specs.declared.block.Draft.{Draft}
use Rattle.ledger_model.specs.declared.outcome.Refusal.{Refusal}
use Rattle.ledger_model.specs.declared.outcome.Refusal.TheVariants.{TooManyRevisions}
use Rattle.ledger_model.specs.Follows.{is_active, is_kept, latest_of}
use Rattle.ledger_model.specs.State.{Recorded, State, Table}
use Rattle.ledger_model.specs.Values.{named_id}
use Rattle.ledger_model.specs.Views.{latest}
use Rattle.ledger_model.specs.Progress.{Effect, Progress, and_then, changed_by, has_room, not_kept, nothing, or_else, reserved, tables_now, unless}
use Rattle.ledger_model.specs.Selecting.{first_absent, views_of}

-- ---- which tables are written

-- why a table isn't written: its name, as it stands in the text, is the ledger's own
abbrev pub own_table : SourceKind → Option Refusal
own_table (source.Table name) = reserved name
own_table (source.History table start end) = None
own_table (source.Path path) = None

-- the first such table in the text, of the sources that the condition picks by their places
abbrev pub first_own : (ℕ → Bool) → ℕ → List Source → Option Refusal
first_own is_written n [] = None
first_own is_written n (s ∷ ss) =
    or_else (if is_written n then own_table s.from else None) (first_own is_written (n + 1) ss)

-- ---- a document that is touched

-- its revision that pends, where the transaction has touched it before
abbrev pub pending_of : Progress → DocId → Option Draft
pending_of p id = find (λ (d : Draft). d.id.raw == id.raw) (latest p.log)

-- the revision after a committed one
abbrev pub next_of : Recorded → Content → Draft
next_of last c = record {
  table = last.table;
  id = last.revision.metadata.id;
  version = last.revision.metadata.version + 1;
  content = c;
}

-- a transaction makes one revision of a document, however often it touches it
abbrev pub again_of : Draft → Content → Draft
again_of d c = record { table = d.table; id = d.id; version = d.version; content = c }

-- a document that is deleted gets none
abbrev pub revised_by : Content → Option Draft → Option Recorded → Option Draft
revised_by c (Some d) last = if is_kept d.content then Some (again_of d c) else None
revised_by c None (Some last) = if is_kept last.revision.content then Some (next_of last c) else None
revised_by c None None = None

abbrev pub if_active : List Table → Option Draft → Option Draft
if_active tables None = None
if_active tables (Some d) = if is_active tables d.table then Some d else None

-- the revision that a touch gives to a document of an active table; the rows of a statement name no others
abbrev pub revised : State → Progress → DocId → Content → Option Draft
revised s p id c = if_active (tables_now s p) (revised_by c (pending_of p id) (latest_of s.revisions id.raw))

abbrev pub touch : Draft → Effect
touch d = record {
  rows = named_id (codes "documentId") d.id.raw ∷ [];
  schema = [];
  log = d ∷ [];
  made = 0;
  footprint = [];
}

abbrev pub touched : Option Draft → Effect
touched None = nothing
touched (Some d) = touch d

abbrev pub touching : State → Progress → DocId → Content → Effect
touching s p id c = touched (revised s p id c)

-- a document that was touched before needs no further room
abbrev pub has_room_for : Progress → DocId → Bool
has_room_for p id = is_some (pending_of p id) || has_room p

-- ---- UPDATE, and FROM with a change

-- one document, and then the others
abbrev pub stored_changes : State → Progress → List Row → Result Effect Refusal
stored_changes s p [] = Ok nothing
stored_changes s p (d ∷ ds) =
    let one = touching s p d.id (Kept d.value) in
    unless (not_kept (has_room_for p d.id) d.value) (and_then one (stored_changes s (changed_by p one) ds))

abbrev pub rows_now : State → Progress → List Value → FromClause → List Combined
rows_now s p params from = rows_of (views_of s p) params from

abbrev pub changed : State → Progress → List Value → FromClause → Change → Result Effect Refusal
changed s p params from c =
    unless (first_own (is_root from.sources c) 0 from.sources) (unless (first_absent s p from.sources)
    (stored_changes s p (changed_documents params c (rows_now s p params from))))

-- ---- DELETE

abbrev pub no_room : Progress → DocId → Option Refusal
no_room p id = if has_room_for p id then None else Some (TooManyRevisions 41)

abbrev pub stored_deletes : State → Progress → List DocId → Result Effect Refusal
stored_deletes s p [] = Ok nothing
stored_deletes s p (id ∷ ids) =
    let one = touching s p id Deleted in
    unless (no_room p id) (and_then one (stored_deletes s (changed_by p one) ids))

abbrev pub deleted : State → Progress → List Value → FromClause → Result Effect Refusal
deleted s p params from =
    unless (first_own (λ n. true) 0 from.sources) (unless (first_absent s p from.sources)
    (stored_deletes s p (deleted_documents (rows_now s p params from))))
