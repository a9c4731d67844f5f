-- Which documents a probe needs: those that may meet it, where it names documents or keys of an index.
use Rattle.std.specs.Prelude.{◌≡◌, ◌^◌, ◌<◌, ℕ, true, List, map, Option, Some, None}
use Rattle.std.specs.List.{AllByRecursion, filter_map}
use Rattle.ion_values.specs.declared.value.Key.{Key}
use Rattle.ql_types.specs.declared.DocId.{DocId}
use Rattle.ql_types.specs.declared.TableId.{TableId}
use Rattle.pql_model.specs.declared.tables.Probe.{Probe}
use Rattle.pql_model.specs.declared.tables.Probe.TheVariants as probe
use Rattle.pql_model.specs.declared.tables.Row.{Row}
use Rattle.pql_model.specs.Tables.{meets}
use Rattle.ledger_model.specs.declared.block.Draft.{Draft}
use Rattle.ledger_model.specs.State.{State, draft_of}
use Rattle.ledger_model.specs.Views.{latest, row_of}
use Rattle.versions.specs.Lookups.{is_among}
use Rattle.view_rows.specs.Named.{AreNamed}

-- the rows of a table where nothing pends
abbrev pub rows_standing : State → TableId → List Row
rows_standing base table = filter_map (row_of table) (latest (map draft_of base.revisions))

-- no other document of the table meets the probe where nothing pends
abbrev pub MeetAlone : State → TableId → Probe → List DocId → Type 0
MeetAlone base table asked ids = AreNamed ids (meets asked) (rows_standing base table)

-- none has one of the keys
abbrev pub HaveKeys : State → TableId → List ℕ → List Key → List DocId → Type 0
HaveKeys base table field keys ids = MeetAlone base table (probe.Keys field keys) ids

-- the documents that pend are among these
abbrev pub AllAmong : List DocId → List Draft → Type 0
AllAmong ids log = AllByRecursion (λ (d : Draft). is_among ids d.id.raw ≡ true) log

-- the numbers of the ids that pend fit 128 bits
abbrev pub DraftsFit : List Draft → Type 0
DraftsFit log = AllByRecursion (λ (d : Draft). d.id.raw < 2 ^ 128) log

-- ---- the documents of some ids, or all

abbrev pub PendAmong : Option (List DocId) → List Draft → Type 0
PendAmong None log = Unit {0}
PendAmong (Some ids) log = AllAmong ids log

abbrev pub EnoughRead : State → TableId → Probe → Option (List DocId) → Type 0
EnoughRead base table asked None = Unit {0}
EnoughRead base table asked (Some ids) = MeetAlone base table asked ids

-- what is left out doesn't pend and doesn't meet the probe
abbrev pub IsNarrow : State → List Draft → TableId → Probe → Option (List DocId) → Type 0
IsNarrow base log table asked read = PendAmong read log × EnoughRead base table asked read
