use Rattle.std.proofs.Common.{◌≡◌, get_or, map, sym}
use Rattle.std.specs.Option.{option_copied}
use Rattle.std.proofs.lemmas.Option.{get_or_from_slice_get, slice_get-get_or}
use Rattle.txn_core.specs.declared.log.Touched.{Touched}
use Rattle.txn_core.proofs.Logged.{drafts_next, drafts_of}
use Rattle.txn_core.proofs.log.drafts_at.Goals as goal

pub touched-preserved : goal.touched-preserved
touched-preserved c =
    let none : Touched = record { id = record { raw = 0 }; place = 0 } in
    let t = get_or c.args.touched.now c.touched.document-index none in
    let there : t ≡ get_or c.args.touched.now c.touched.document-index t =
    sym (get_or_from_slice_get c.args.touched.now c.touched.document-index t t (slice_get-get_or c.args.touched.now c.touched.document-index none c.touched-test.true)) in
    drafts_next c.args.drafts.now c.args.touched.now c.touched.document-index t (option_copied c.draft_at.result)
    (map (λ d. d.now) c.touched.all) (map (λ d. d.now) c.push_some.new.all) (drafts_of c.args.drafts.now c.args.touched.now) c.touched-test.true
    there c.draft_at.ensures c.in_ok-push_some.ensures c.touched.invariant
