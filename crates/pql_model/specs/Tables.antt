-- What the name of a source says of its table and its view, and which rows a probe asks for (the views of Amazon
-- QLDB's user view and committed view; probes are the ledger's own).
use Rattle.std.specs.Prelude.{ℕ, ◌==◌, Bool, true, false, List, drop, length, codes, if◌then◌else◌}
use Rattle.std.specs.List.{filter, list_any}
use Rattle.std.specs.declared.option.Option.{Option}
use Rattle.std.specs.declared.option.Option.TheVariants.{None, Some}
use Rattle.ion_values.specs.declared.value.Value.{Value}
use Rattle.ion_values.specs.declared.value.Key.{Key}
pub use Rattle.ion_values.specs.Keys.{is_same_key}
use Rattle.ion_model.specs.Blanks.{begins}
use Rattle.ion_order.specs.Key.{key_of}
use Rattle.ql_types.specs.declared.DocId.{DocId}
use Rattle.pql_model.specs.declared.tables.Probe.{Probe}
use Rattle.pql_model.specs.declared.tables.Probe.TheVariants as probe
use Rattle.pql_model.specs.declared.tables.Row.{Row}
use Rattle.pql_model.specs.declared.tables.View.{View}
use Rattle.pql_model.specs.declared.tables.View.TheVariants as view
use Rattle.pql_model.specs.Steps.{field_of}

-- ---- names

abbrev pub committed_prefix : List ℕ
committed_prefix = codes "_ql_committed_"

-- a name of a committed view
abbrev pub is_committed : List ℕ → Bool
is_committed name = begins committed_prefix name

-- the table that a source names
abbrev pub table_named : List ℕ → List ℕ
table_named name = if is_committed name then drop (length committed_prefix) name else name

-- and what it sees of it
abbrev pub view_named : List ℕ → View
view_named name = if is_committed name then view.Committed else view.User

-- ---- probes

abbrev pub has_key : Key → Option Key → Bool
has_key k None = false
has_key k (Some found) = is_same_key found k

-- the key of a field, where the row has the field and its value a key
abbrev pub key_in : Option Value → Option Key
key_in None = None
key_in (Some v) = key_of v

-- the value has one of the keys
abbrev pub has_one : List Key → Option Key → Bool
has_one keys found = list_any (λ k. has_key k found) keys

abbrev pub meets : Probe → Row → Bool
meets probe.All r = true
meets (probe.Id id) r = r.id.raw == id.raw
meets (probe.Key field k) r = has_key k (key_in (field_of field r.value))
meets (probe.Ids ids) r = list_any (λ (id : DocId). r.id.raw == id.raw) ids
meets (probe.Keys field keys) r = has_one keys (key_in (field_of field r.value))

-- the rows that meet the probe, in their order
abbrev pub meeting : Probe → List Row → List Row
meeting p rows = filter (meets p) rows
