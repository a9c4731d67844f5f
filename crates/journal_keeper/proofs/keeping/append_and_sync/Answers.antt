use Rattle.std.proofs.Common.{◌≡◌, ◌∙◌, Err, refl, rules}
use Rattle.journal_keeper.proofs.Calls.{append_call, calls_on, no_call, sync_call}
use Rattle.journal_keeper.proofs.Images.{append_failed, append_synced, append_unsynced}
use Rattle.journal_keeper.proofs.Syncs.{all_synced, append_part, appended_bytes, part_then, sync_keeps}
use Rattle.journal_keeper.proofs.keeping.append_and_sync.Goals as goal

pub returns-in_err-append-clause-part : goal.returns-in_err-append-clause-part
returns-in_err-append-clause-part g c = append_part c.append.result c.args.line.now _ _ c.append.ensures.content

pub returns-in_err-sync-clause-part : goal.returns-in_err-sync-clause-part
returns-in_err-sync-clause-part g c =
    part_then c.args.line.now _ _ _ (append_part c.append.result c.args.line.now _ _ c.append.ensures.content)
    (sync_keeps c.sync.result _ _ c.sync.ensures.content)

pub returns-clause-part : goal.returns-clause-part
returns-clause-part g c =
    part_then c.args.line.now _ _ _ (append_part c.append.result c.args.line.now _ _ c.append.ensures.content)
    (sync_keeps c.sync.result _ _ c.sync.ensures.content)

pub returns-clause-bytes : goal.returns-clause-bytes
returns-clause-bytes g c =
    sync_keeps c.sync.result _ _ c.sync.ensures.content ∙ appended_bytes c.args.line.now _ _ c.in_ok-append.ensures.content

pub returns-clause-synced : goal.returns-clause-synced
returns-clause-synced g c = all_synced _ _ c.in_ok-sync.ensures.content

pub returns-in_err-append-clause-images : goal.returns-in_err-append-clause-images
returns-in_err-append-clause-images g c =
    let out : c.from_residual.result ≡ Err c.in_err-append.field-0.0 = search rules in
    append_failed _ _ c.in_err-append.field-0.0 c.args.line.now _ _ out c.in_err-append.ensures.content

pub returns-in_err-sync-clause-images : goal.returns-in_err-sync-clause-images
returns-in_err-sync-clause-images g c =
    let out : c.from_residual-in_err-sync.result ≡ Err c.in_err-sync.field-0.0 = search rules in
    append_unsynced _ _ c.in_err-sync.field-0.0 c.args.line.now _ _ _ out c.in_ok-append.ensures.content c.in_err-sync.ensures.content

pub returns-clause-images : goal.returns-clause-images
returns-clause-images g c = append_synced (Unit {0}) tt c.args.line.now _ _ _ c.in_ok-append.ensures.content c.in_ok-sync.ensures.content

pub returns-in_err-append-clause-calls : goal.returns-in_err-append-clause-calls
returns-in_err-append-clause-calls g c = calls_on 1 1 _ _ _ (append_call c.append.result c.args.line.now _ _ c.append.ensures.content) (no_call 1 _ _ refl)

pub returns-in_err-sync-clause-calls : goal.returns-in_err-sync-clause-calls
returns-in_err-sync-clause-calls g c =
    calls_on 1 1 _ _ _ (append_call c.append.result c.args.line.now _ _ c.append.ensures.content) (sync_call c.sync.result _ _ c.sync.ensures.content)

pub returns-clause-calls : goal.returns-clause-calls
returns-clause-calls g c =
    calls_on 1 1 _ _ _ (append_call c.append.result c.args.line.now _ _ c.append.ensures.content) (sync_call c.sync.result _ _ c.sync.ensures.content)
