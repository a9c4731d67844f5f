-- What a statement asks of its sources, as it is kept in memory with what it lends.
use Rattle.std.specs.Prelude.{◌==◌, ◌&&◌, Bool, false, List, ◌∷◌, ℕ, length, map, Option, Some, None, option_map, if◌then◌else◌}
use Rattle.std.specs.Borrow.{Bor}
use Rattle.std.specs.Str.{bytes_eq}
use Rattle.ql_types.specs.declared.TableId.{TableId}
use Rattle.ledger_model.specs.declared.block.Schema.{Schema}
use Rattle.ledger_model.specs.declared.block.Schema.TheVariants.{Create, Index, Drop, Redact}
use Rattle.ion_values.specs.declared.value.Value.{Value}
use Rattle.ledger_model.specs.Conditions as spec
use Rattle.ledger_model.specs.Footprints as foot
use Rattle.ledger_model.specs.State.{all_indexed}
use Rattle.versions.specs.Held.{table_of}
use Rattle.footprints.specs.declared.asked.Asked.{Asked}
use Rattle.footprints.specs.declared.asked.Meant.{Meant}
use Rattle.footprints.specs.declared.asked.Meant.TheVariants as meant
use Rattle.footprints.specs.declared.asked.Wanted.{Wanted}
use Rattle.footprints.specs.declared.asked.Wanted.TheVariants as wanted
use Rattle.footprints.specs.declared.read.Read.{Read}
use Rattle.footprints.specs.declared.read.Spot.{Spot}
use Rattle.footprints.specs.declared.schemas.Schemas.{Schemas}
use Rattle.footprints.specs.declared.sides.Member.{Member}
use Rattle.footprints.specs.declared.sides.Member.TheVariants as member
use Rattle.footprints.specs.declared.sides.Side.{Side}
use Rattle.footprints.specs.declared.sides.Side.TheVariants as side

-- names that are lent
abbrev pub texts : List (Bor (List ℕ)) → List (List ℕ)
texts lent = map (λ t. t.now) lent

abbrev pub values_lent : List (Bor Value) → List Value
values_lent lent = map (λ v. v.now) lent

abbrev pub side_of : Side → spec.Side
side_of (side.Constant v) = spec.constant v.now
side_of side.Missing = spec.missing
side_of (side.Names first fields) = spec.names first.now (texts fields)
side_of (side.Constants values) = spec.constants (values_lent values)
side_of side.Other = spec.other

-- a member of a list, in front of others
abbrev pub with_member : Member → Option (List Value) → Option (List Value)
with_member (member.Constant v) more = option_map (λ values. v.now ∷ values) more
with_member member.Missing more = more
with_member member.Other more = None

abbrev pub meant_of : Meant → spec.Meant
meant_of (meant.Id place) = spec.id_of place
meant_of (meant.AtNames place fields) = spec.at_names place (texts fields)
meant_of meant.Unknown = spec.unknown

abbrev pub wanted_of : Wanted → spec.Wanted
wanted_of (wanted.EqualTo v) = spec.equal_to v.now
wanted_of (wanted.OneOf values) = spec.one_of (values_lent values)
wanted_of (wanted.SameAs other) = spec.same_as (meant_of other)

abbrev pub asked_of : Asked → spec.Asked
asked_of a = record { of = meant_of a.of; wanted = wanted_of a.wanted }

abbrev pub all_asked_of : List Asked → List spec.Asked
all_asked_of asked = map asked_of asked

-- ---- what is read

abbrev pub read_of : Read → foot.Read
read_of r = record { kind = r.source.now.from; items = r.items; rows = r.rows }

abbrev pub reads_of : List Read → List foot.Read
reads_of reads = map read_of reads

abbrev pub spot_of : Spot → foot.Spot
spot_of at = record {
  place = length at.earlier.now;
  kind = at.kind.now;
  table = at.table;
  earlier = reads_of at.earlier.now;
}

-- none where they are more than are read by key
abbrev pub few_of : {A : Type 0} → List A → Option (List A)
few_of xs = if foot.are_few xs then Some xs else None

-- the tables and the fields with an index, the changes counted
abbrev pub schemas_of : Schemas → foot.Schemas
schemas_of s = record { tables = map table_of s.tables.now; indexes = all_indexed s.base.now.indexes s.changes.now }

-- the change makes an index on the field of the table
abbrev pub makes_index : TableId → List ℕ → Schema → Bool
makes_index table field (Index name id) = (id.raw == table.raw) && bytes_eq name field
makes_index table field (Create name id) = false
makes_index table field (Drop name id) = false
makes_index table field (Redact address id document) = false
