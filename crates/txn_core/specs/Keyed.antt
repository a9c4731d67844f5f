-- A key that a probe asks for alone.
use Rattle.std.specs.Prelude.{◌≡◌}
use Rattle.pql_model.specs.declared.tables.Probe.{Probe}
use Rattle.pql_model.specs.declared.tables.Probe.TheVariants as probe
use Rattle.pql_model.specs.declared.tables.Row.{Row}
use Rattle.pql_model.specs.Tables.{meets}
use Rattle.txn_core.specs.declared.keyed.Wanted.{Wanted}

-- the rows that meet the probe are those with the key
abbrev pub AsksFor : Probe → Wanted → Type 0
AsksFor asked w = (row : Row) → meets asked row ≡ meets (probe.Key w.field.now w.key.now) row
