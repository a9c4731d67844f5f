-- The rows of a table's committed view, which shows the latest revision of each document that isn't deleted, and of its
-- history, which shows all revisions that were active between two moments (the views of Amazon QLDB's Developer Guide;
-- how bounds and deletes count is the ledger's own). Both show committed revisions only, each as the journal has it,
-- with the id of its document.
use Rattle.std.specs.Prelude.{ℕ, ℤ, ◌==◌, ◌&&◌, ◌||◌, Bool, true, false, int_le, int_lt, List, [], ◌∷◌, map, Option, Some, None, option_map, option_and_then, if◌then◌else◌}
use Rattle.std.specs.List.{filter_map}
use Rattle.std.specs.Option.{option_map_or}
use Rattle.ion_values.specs.Time.{instant_of}
use Rattle.ion_values.specs.declared.value.Body.TheOpen.{Body-F}
use Rattle.ion_values.specs.declared.value.Value.{Value}
use Rattle.ql_types.specs.declared.TableId.{TableId}
use Rattle.pql_model.specs.declared.tables.Row.{Row}
use Rattle.pql_model.specs.Made.{Seen, seen}
use Rattle.ledger_model.specs.declared.block.Content.{Content}
use Rattle.ledger_model.specs.declared.block.Content.TheVariants.{Deleted, Kept, Redacted}
use Rattle.ledger_model.specs.declared.block.Draft.{Draft}
use Rattle.ledger_model.specs.Follows.{latest_of}
use Rattle.ledger_model.specs.Journal.{revision_value}
use Rattle.ledger_model.specs.State.{Recorded, draft_of}
use Rattle.ledger_model.specs.Views.{latest, row_of}

abbrev pub row_showing : Recorded → Row
row_showing r = record { id = r.revision.metadata.id; value = revision_value r.revision }

-- ---- the committed view

-- a row stands for a document that isn't deleted
abbrev pub committed_row : TableId → List Recorded → Draft → Option Row
committed_row table revisions d =
    option_and_then (λ (row : Row). option_map row_showing (latest_of revisions row.id.raw)) (row_of table d)

abbrev pub committed_view : TableId → List Recorded → List Row
committed_view table revisions = filter_map (committed_row table revisions) (latest (map draft_of revisions))

-- ---- when a revision was active

abbrev pub began : Recorded → ℤ
began r = instant_of r.revision.metadata.time

-- the moment at which the document's next revision began
abbrev pub next_began : ℕ → List Recorded → Option ℤ
next_began id [] = None
next_began id (r ∷ later) = if r.revision.metadata.id.raw == id then Some (began r) else next_began id later

-- a delete ends as it begins, and the last revision of a document that isn't deleted has no end
abbrev pub ended_by : Content → ℤ → Option ℤ → Option ℤ
ended_by Deleted at next = Some at
ended_by (Kept v) at next = next
ended_by (Redacted hash) at next = next

abbrev pub ended : Recorded → List Recorded → Option ℤ
ended r later = ended_by r.revision.content (began r) (next_began r.revision.metadata.id.raw later)

-- ---- bounds

abbrev pub moment_seen : Seen → Option ℤ
moment_seen (Body-F.Timestamp t) = Some (instant_of t)
moment_seen _ = None

-- a condition on a bound holds where the bound isn't given, and never where it is given as no timestamp
abbrev pub on_bound : (ℤ → Bool) → Option Value → Bool
on_bound holds None = true
on_bound holds (Some v) = option_map_or holds (moment_seen (seen v)) false

-- it began no earlier than the start, or was active behind it
abbrev pub lasts_from : ℤ → Option ℤ → ℤ → Bool
lasts_from from to start = int_le start from || option_map_or (int_lt start) to true

abbrev pub in_order : Option Value → Option Value → Bool
in_order start end = on_bound (λ s. on_bound (int_le s) end) start

-- active from one moment, and before another where there is one
abbrev pub is_between : Option Value → Option Value → ℤ → Option ℤ → Bool
is_between start end from to = in_order start end && on_bound (int_le from) end && on_bound (lasts_from from to) start

-- ---- history

abbrev pub is_historic : TableId → Option Value → Option Value → Recorded → List Recorded → Bool
is_historic table start end r later =
    (r.table.raw == table.raw) && is_between start end (began r) (ended r later)

-- in block order
abbrev pub history_view : TableId → Option Value → Option Value → List Recorded → List Row
history_view table start end [] = []
history_view table start end (r ∷ later) =
    if is_historic table start end r later then row_showing r ∷ history_view table start end later
    else history_view table start end later
