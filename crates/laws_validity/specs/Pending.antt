-- Revisions that pend in a transaction, and the ids that it gave.
use Rattle.std.specs.Prelude.{ℕ, ◌+◌, ◌==◌, ◌&&◌, Bool, List, [], ◌∷◌, ◌++◌, map, Option, Some, None, if◌then◌else◌}
use Rattle.std.specs.List.{filter}
use Rattle.ledger_model.specs.declared.block.Draft.{Draft}
use Rattle.ledger_model.specs.declared.block.Schema.{Schema}
use Rattle.ledger_model.specs.State.{State, Recorded}
use Rattle.ledger_model.specs.Views.{latest}
use Rattle.ledger_model.specs.Follows.{created_ids, is_kept, is_new}
pub use Rattle.ledger_model.specs.Run.{is_left, left_of}

-- The revision of a draft goes on from the latest committed one: a new document begins with version 0, and another
-- one, which isn't deleted, keeps its table and has one version more.
abbrev pub goes_on : Draft → Option Recorded → Bool
goes_on d None = d.version == 0
goes_on d (Some last) =
    (d.table.raw == last.table.raw) &&
    (d.version == last.revision.metadata.version + 1) && is_kept last.revision.content

-- ---- ids

abbrev pub draft_ids : List Draft → List ℕ
draft_ids drafts = map (λ d. d.id.raw) drafts

-- the ids that a transaction gave to tables and to documents that are new to the state
abbrev pub given_ids : State → List Schema → List Draft → List ℕ
given_ids s schema log = created_ids schema ++ filter (is_new s.revisions) (draft_ids (latest log))

-- the draft of a document among drafts of different documents
abbrev pub draft_for : List Draft → ℕ → Option Draft
draft_for [] id = None
draft_for (d ∷ ds) id = if d.id.raw == id then Some d else draft_for ds id
