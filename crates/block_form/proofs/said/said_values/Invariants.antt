use Rattle.std.proofs.Common.{◌≡◌, map, take}
use Rattle.ledger_model.specs.Journal.{said_value}
use Rattle.block_form.proofs.said.said_values.Given as goal

abbrev pub invariant-loop-one : goal.invariant-loop-one
invariant-loop-one l = l.values ≡ map said_value (take l.one-index l.said)
