use Rattle.std.proofs.Common.{◌≡◌, drop}
use Rattle.ledger_model.specs.Run.{first_deep}
use Rattle.txn_core.proofs.limits.first_deep.Given as goal

-- the values in front aren't too deep
abbrev pub invariant-values : goal.invariant-values
invariant-values l = first_deep (drop l.value-index l.values) ≡ first_deep l.values
