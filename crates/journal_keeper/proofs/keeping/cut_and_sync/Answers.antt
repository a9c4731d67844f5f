use Rattle.std.proofs.Common.{◌≡◌, ◌∙◌, Err, refl, rules}
use Rattle.journal_keeper.proofs.Calls.{calls_on, cut_call, no_call, sync_call}
use Rattle.journal_keeper.proofs.Images.{cut_failed, cut_synced, sync_failed}
use Rattle.journal_keeper.proofs.Syncs.{all_synced, cut_bytes, cut_may, may_then, sync_keeps}
use Rattle.journal_keeper.proofs.keeping.cut_and_sync.Goals as goal

pub returns-in_err-cut-clause-cut : goal.returns-in_err-cut-clause-cut
returns-in_err-cut-clause-cut g c = cut_may c.cut.result c.args.size _ _ c.cut.ensures.content

pub returns-in_err-sync-clause-cut : goal.returns-in_err-sync-clause-cut
returns-in_err-sync-clause-cut g c =
    may_then c.args.size _ _ _ (cut_may c.cut.result c.args.size _ _ c.cut.ensures.content) (sync_keeps c.sync.result _ _ c.sync.ensures.content)

pub returns-clause-cut : goal.returns-clause-cut
returns-clause-cut g c =
    may_then c.args.size _ _ _ (cut_may c.cut.result c.args.size _ _ c.cut.ensures.content) (sync_keeps c.sync.result _ _ c.sync.ensures.content)

pub returns-clause-bytes : goal.returns-clause-bytes
returns-clause-bytes g c =
    sync_keeps c.sync.result _ _ c.sync.ensures.content ∙ cut_bytes c.args.size _ _ c.in_ok-cut.ensures.content

pub returns-clause-synced : goal.returns-clause-synced
returns-clause-synced g c = all_synced _ _ c.in_ok-sync.ensures.content

pub returns-in_err-cut-clause-images : goal.returns-in_err-cut-clause-images
returns-in_err-cut-clause-images g c =
    let out : c.from_residual.result ≡ Err c.in_err-cut.field-0.0 = search rules in
    λ marked. cut_failed _ _ c.in_err-cut.field-0.0 c.args.size marked _ _ out c.in_err-cut.ensures.content

pub returns-in_err-sync-clause-images : goal.returns-in_err-sync-clause-images
returns-in_err-sync-clause-images g c =
    let out : c.from_residual-in_err-sync.result ≡ Err c.in_err-sync.field-0.0 = search rules in
    λ marked. sync_failed _ _ c.in_err-sync.field-0.0 c.args.size marked _ _ _ out c.in_ok-cut.ensures.content c.in_err-sync.ensures.content

pub returns-clause-images : goal.returns-clause-images
returns-clause-images g c = λ marked. cut_synced (Unit {0}) tt c.args.size marked _ _ _ c.in_ok-cut.ensures.content c.in_ok-sync.ensures.content

pub returns-in_err-cut-clause-calls : goal.returns-in_err-cut-clause-calls
returns-in_err-cut-clause-calls g c = calls_on 1 1 _ _ _ (cut_call c.cut.result c.args.size _ _ c.cut.ensures.content) (no_call 1 _ _ refl)

pub returns-in_err-sync-clause-calls : goal.returns-in_err-sync-clause-calls
returns-in_err-sync-clause-calls g c =
    calls_on 1 1 _ _ _ (cut_call c.cut.result c.args.size _ _ c.cut.ensures.content) (sync_call c.sync.result _ _ c.sync.ensures.content)

pub returns-clause-calls : goal.returns-clause-calls
returns-clause-calls g c =
    calls_on 1 1 _ _ _ (cut_call c.cut.result c.args.size _ _ c.cut.ensures.content) (sync_call c.sync.result _ _ c.sync.ensures.content)
