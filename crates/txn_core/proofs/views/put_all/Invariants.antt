use Rattle.std.proofs.Common.{◌≡◌, drop}
use Rattle.ledger_model.specs.Views.{latest_from}
use Rattle.view_rows.specs.Seen.{drafts_seen}
use Rattle.txn_core.proofs.views.put_all.Given as goal

-- the rest on top of what was put so far gives what all give
abbrev pub invariant-pending : goal.invariant-pending
invariant-pending l = latest_from (drafts_seen l.documents) (drop l.draft-index l.log) ≡ latest_from (drafts_seen l.initial.documents) l.log
