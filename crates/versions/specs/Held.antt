-- What is kept in memory of the state after a list of blocks.
use Rattle.std.specs.Prelude.{◌≡◌, ℕ, Bool, refl, List, [], map, Option, Some, None}
use Rattle.std.specs.Coded.{Coded, code_by, coded×, coded_ℕ, coded_bool, coded_list}
use Rattle.std.specs.Borrow.{Bor}
use Rattle.ql_types.specs.declared.TableId.{TableId}
use Rattle.ledger_model.specs.declared.block.Draft.{Draft}
use Rattle.ql_types.specs.contracts.TableId as table
use Rattle.ledger_model.specs.declared.block.Revision.{Revision}
use Rattle.ledger_model.specs.contracts.block.Revision as revision
use Rattle.ledger_model.specs.State as state
use Rattle.versions.specs.declared.recorded.Recorded.{Recorded}
use Rattle.versions.specs.declared.tables.Table.{Table}
use Rattle.versions.specs.declared.tables.Indexed.{Indexed}

abbrev pub table_of : Table → state.Table
table_of t = record { name = t.name; id = t.id; active = t.active }

abbrev pub indexed_of : Indexed → state.Indexed
indexed_of i = record { table = i.table; field = i.field }

abbrev pub recorded_of : Recorded → state.Recorded
recorded_of r = record { table = r.table; revision = r.revision }

-- no list is kept before its first item
abbrev pub items_in : {T : Type 0} → Option (List T) → List T
items_in None = []
items_in (Some items) = items

-- the revisions that are lent
abbrev pub recorded_lent : List (Bor Recorded) → List state.Recorded
recorded_lent lent = map (λ r. recorded_of r.now) lent

-- the drafts of what is lent: the revisions without what their blocks gave them
abbrev pub drafts_lent : List (Bor Recorded) → List Draft
drafts_lent lent = map (λ r. state.draft_of (recorded_of r.now)) lent

abbrev pub table_code : Coded state.Table
table_code =
    code_by (List ℕ × (TableId × Bool)) (coded× (coded_list coded_ℕ) (coded× table.the_row.coded coded_bool))
    (λ t. (t.name, (t.id, t.active))) (λ p. record { name = p.0; id = p.1.0; active = p.1.1 }) (λ _. refl)

abbrev pub indexed_code : Coded state.Indexed
indexed_code =
    code_by (TableId × List ℕ) (coded× table.the_row.coded (coded_list coded_ℕ))
    (λ i. (i.table, i.field)) (λ p. record { table = p.0; field = p.1 }) (λ _. refl)

abbrev pub recorded_code : Coded state.Recorded
recorded_code =
    code_by (TableId × Revision) (coded× table.the_row.coded revision.the_row.coded)
    (λ r. (r.table, r.revision)) (λ p. record { table = p.0; revision = p.1 }) (λ _. refl)

abbrev pub state_code : Coded state.State
state_code =
    code_by (List state.Recorded × (List state.Table × List state.Indexed))
    (coded× (coded_list recorded_code) (coded× (coded_list table_code) (coded_list indexed_code)))
    (λ s. (s.revisions, (s.tables, s.indexes))) (λ p.
    record { revisions = p.0; tables = p.1.0; indexes = p.1.1 }) (λ _. refl)
