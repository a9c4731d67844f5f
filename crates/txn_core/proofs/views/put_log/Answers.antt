use Rattle.std.proofs.Common.{map, ap, ◌∙◌}
use Rattle.ledger_model.specs.Views.{latest_from}
use Rattle.view_rows.specs.Seen.{drafts_seen}
use Rattle.txn_core.proofs.Logged.{latest_again}
use Rattle.txn_core.proofs.views.put_log.Goals as goal

pub returns : goal.returns
returns c =
    c.in_ok-put_lent.ensures
    ∙ ap (latest_from (drafts_seen c.args.documents.now)) (ap (map (λ d. d.now)) c.as_slice.ensures ∙ c.in_ok-newest.ensures)
    ∙ latest_again (drafts_seen c.args.documents.now) c.args.log.now
