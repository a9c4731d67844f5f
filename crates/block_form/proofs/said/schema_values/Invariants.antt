use Rattle.std.proofs.Common.{◌≡◌, map, take}
use Rattle.ledger_model.specs.Journal.{schema_value}
use Rattle.block_form.proofs.said.schema_values.Given as goal

abbrev pub invariant-loop-change : goal.invariant-loop-change
invariant-loop-change l = l.values ≡ map schema_value (take l.change-index l.schema)
