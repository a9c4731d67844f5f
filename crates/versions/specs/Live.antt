-- Which documents aren't deleted, by their tables.
use Rattle.std.specs.Prelude.{◌≡◌, ℕ, ◌==◌, ◌^◌, ◌<◌, Bool, true, false, List, map, Option, Some, None, is_some}
use Rattle.std.specs.List.{AllByRecursion, filter}
use Rattle.std.specs.Borrow.{Bor}
use Rattle.ql_types.specs.declared.TableId.{TableId}
use Rattle.ledger_model.specs.declared.block.Content.{Content}
use Rattle.ledger_model.specs.declared.block.Content.TheVariants.{Deleted, Kept, Redacted}
use Rattle.ledger_model.specs.declared.block.Draft.{Draft}
use Rattle.ledger_model.specs.Follows.{latest_of}
use Rattle.ledger_model.specs.State as state
use Rattle.ledger_model.specs.Views.{row_of}
use Rattle.versions.specs.declared.recorded.Recorded.{Recorded}
use Rattle.versions.specs.Held.{drafts_lent, recorded_lent, recorded_of}
use Rattle.versions.specs.ByTable.{AreByTable, by_table}
use Rattle.versions.specs.Filing.{AreFiled}
use Rattle.versions.specs.Histories.{AreHistories}
use Rattle.versions.specs.Newest.{newest}

abbrev pub live_in : TableId → Content → Option TableId
live_in table Deleted = None
live_in table (Kept v) = Some table
live_in table (Redacted hash) = None

-- the table of a document that isn't deleted
abbrev pub live_table : Recorded → Option TableId
live_table r = live_in r.table r.revision.content

-- whether a document has a row in the table: it is of the table and isn't deleted
abbrev pub is_live : TableId → Draft → Bool
is_live table d = is_some (row_of table d)

-- the documents with a row in the table
abbrev pub live_of : TableId → List Draft → List Draft
live_of table documents = filter (is_live table) documents

-- each is the last revision of its document
abbrev pub AreLast : List state.Recorded → List (Bor Recorded) → Type 0
AreLast revisions lent =
    map (λ (r : state.Recorded). Some r) (recorded_lent lent)
    ≡ map (λ (d : Draft). latest_of revisions d.id.raw) (drafts_lent lent)

-- none or the same table
abbrev pub is_same_table : Option TableId → Option TableId → Bool
is_same_table None None = true
is_same_table None (Some b) = false
is_same_table (Some a) None = false
is_same_table (Some a) (Some b) = a.raw == b.raw

-- the numbers of all ids fit 128 bits
abbrev pub AllFit : List state.Recorded → Type 0
AllFit revisions = AllByRecursion (λ (r : state.Recorded). r.revision.metadata.id.raw < 2 ^ 128) revisions

-- beside all revisions stand the latest one of each document, the places of its revisions and of those of each table,
-- and the places of the table's documents that aren't deleted
pub record IsWhole (revisions latest : List Recorded) (kept : List (List ℕ)) (tables : List (TableId × List ℕ))
    (live : List (TableId × List ℕ)) : Type 0 where
  pub newest_is : latest ≡ newest revisions
  pub kept_are : AreHistories kept latest revisions
  pub tables_are : AreByTable tables revisions
  pub live_are : AreFiled by_table live_table live latest
  pub fits : AllFit (map recorded_of revisions)
