use Rattle.std.proofs.Common.{◌≡◌, drop}
use Rattle.ledger_model.specs.ReadScript.{named}
use Rattle.ledger_model.proofs.fields.value_named.Given as goal

-- no field before has the name
abbrev pub invariant-fields : goal.invariant-fields
invariant-fields l = named l.name (drop l.field-index l.fields) ≡ named l.name l.fields
