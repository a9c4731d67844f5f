use Rattle.std.proofs.Common.{◌≡◌, ◌+◌, ◌≤◌, drop}
use Rattle.ledger_model.specs.Run.{created_count}
use Rattle.txn_core.proofs.limits.created_count.Given as goal

-- those in front and those of the rest are all
abbrev pub invariant-changes : goal.invariant-changes
invariant-changes l = record {
  so_far : l.count + created_count (drop l.change-index l.changes) ≡ created_count l.changes;
  within : l.count ≤ l.change-index;
}
