use Rattle.std.proofs.Common.{List, sym, ap, ◌∙◌}
use Rattle.std.proofs.lemmas.List.{map-id}
use Rattle.std.proofs.lemmas.Iterator.Adapters.{YieldsList-from_vec}
use Rattle.std.proofs.lemmas.Iterator.Consumers.{YieldsList-end}
use Rattle.ledger_model.specs.declared.block.Draft.{Draft}
use Rattle.ledger_model.specs.Views.{latest, put}
use Rattle.txn_core.proofs.Overlaid.{latest_last}
use Rattle.txn_core.proofs.views.latest.Goals as goal

pub drafts-preserved : goal.drafts-preserved
drafts-preserved c =
    c.in_ok-put_draft.ensures ∙ ap (λ (ds : List Draft). put ds c.in-Some.draft) c.drafts.invariant ∙ sym (latest_last c.drafts.yielded c.in-Some.draft)

pub returns : goal.returns
returns c =
    let gives = c.into_iter-draft-iterator.ensures.into_iter_gives in
    let all = YieldsList-end (YieldsList-from_vec {s = c.into_iter-draft-iterator.result} c.args.log.items gives.0 (gives.1 ∙ c.args.log.ok.0)) c.drafts.yielded
    c.drafts.draft-iterator c.drafts.yielded_by c.next.result c.next.new.self c.in-None.is c.next.ensures.steps in
    c.drafts.invariant ∙ ap (λ (ds : List Draft). latest ds) (sym (map-id c.drafts.yielded) ∙ all.0)
