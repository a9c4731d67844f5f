use Rattle.std.proofs.Common.{◌≡◌, length, drop}
use Rattle.ledger_model.specs.ReadScript.{named}
use Rattle.script_form.proofs.scripts.fields.into_named.Given as goal

-- no field before has the name
abbrev pub invariant-fields : goal.invariant-fields
invariant-fields l = named l.name (drop (length l.yielded) l.fn.fields) ≡ named l.name l.fn.fields
