use Rattle.std.proofs.Common.{ap, ap₂, ◌∙◌}
use Rattle.ledger_model.specs.Views.{latest}
use Rattle.txn_core.proofs.Logged.{drafts_of, newest_touched}
use Rattle.txn_core.proofs.log.Log.newest.Goals as goal

pub returns : goal.returns
returns c =
    let inside = c.self.inside in
    c.in_ok-all.ensures ∙ ap₂ drafts_of c.as_slice.ensures.value c.as_slice-2.ensures
    ∙ newest_touched inside.drafts.items inside.touched c.self.invariant ∙ ap latest c.self.view_is
