use Rattle.std.proofs.Common.{◌≡◌}
use Rattle.ledger_model.specs.Views.{latest}
use Rattle.txn_core.proofs.views.latest.Given as goal

-- those put so far
abbrev pub invariant-drafts : goal.invariant-drafts
invariant-drafts l = l.documents ≡ latest l.yielded
