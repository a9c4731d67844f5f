use Rattle.std.proofs.Common.{List, map, ap, ◌∙◌}
use Rattle.ledger_model.specs.declared.block.Draft.{Draft}
use Rattle.ledger_model.specs.State.{draft_of}
use Rattle.ledger_model.specs.Views.{latest_from}
use Rattle.versions.specs.Held.{drafts_lent}
use Rattle.txn_core.proofs.Narrowing.{latest_those}
use Rattle.txn_core.proofs.views.latest_among.Goals as goal

pub returns : goal.returns
returns c =
    c.in_ok-put_log.ensures
    ∙ ap (λ (ds : List Draft). latest_from ds c.args.log.now)
    (c.in_ok-documents.ensures ∙ ap drafts_lent c.as_slice.ensures ∙ c.in_ok-recorded.ensures.drafts)
    ∙ latest_those c.args.ids.now (map draft_of c.args.base.now.revisions) c.args.log.now c.requires
