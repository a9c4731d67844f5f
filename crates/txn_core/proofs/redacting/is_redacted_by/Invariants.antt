use Rattle.std.proofs.Common.{◌≡◌, drop}
use Rattle.ledger_model.specs.State.{is_redacted_by}
use Rattle.versions.specs.Held.{recorded_of}
use Rattle.txn_core.proofs.redacting.is_redacted_by.Given as goal

-- none of the changes passed redacts it
abbrev pub invariant-changes : goal.invariant-changes
invariant-changes l = is_redacted_by (drop l.change-index l.changes) (recorded_of l.recorded) ≡ is_redacted_by l.changes (recorded_of l.recorded)
