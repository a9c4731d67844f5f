use Rattle.std.proofs.Common.{◌≡◌, drop, map}
use Rattle.ledger_model.specs.Views.{latest_from}
use Rattle.view_rows.specs.Seen.{drafts_seen}
use Rattle.txn_core.proofs.views.put_lent.Given as goal

-- the rest on top of what was put so far gives what all give
abbrev pub invariant-newest : goal.invariant-newest
invariant-newest l =
    latest_from (drafts_seen l.documents) (map (λ d. d.now) (drop l.draft-index l.newest))
    ≡ latest_from (drafts_seen l.initial.documents) (map (λ d. d.now) l.newest)
