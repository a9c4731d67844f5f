use Rattle.std.proofs.Common.{◌≡◌, ◌+◌, ◌≤◌, drop}
use Rattle.ledger_model.specs.Redacting.{redaction_count}
use Rattle.txn_core.proofs.redacting.redaction_count.Given as goal

-- those in front and those of the rest are all
abbrev pub invariant-changes : goal.invariant-changes
invariant-changes l = record {
  so_far : l.count + redaction_count (drop l.change-index l.changes) ≡ redaction_count l.changes;
  within : l.count ≤ l.change-index;
}
