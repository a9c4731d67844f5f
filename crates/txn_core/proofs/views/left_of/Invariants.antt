use Rattle.std.proofs.Common.{◌≡◌}
use Rattle.std.specs.List.{filter}
use Rattle.ledger_model.specs.Run.{is_left}
use Rattle.txn_core.proofs.views.left_of.Given as goal

abbrev pub invariant-drafts : goal.invariant-drafts
invariant-drafts l = l.left ≡ filter is_left l.yielded
