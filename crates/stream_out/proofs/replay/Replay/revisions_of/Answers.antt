use Rattle.std.proofs.Common.{◌≡◌, ◌∙◌, ◌+◌, List, [], ◌∷◌, ◌++◌, drop, sym, subst, arith, rules}
use Rattle.ledger_model.specs.declared.block.Revision.{Revision}
use Rattle.ledger_model.specs.Script.{each}
use Rattle.value_codec.proofs.Each.{behind, each_more, each_none}
use Rattle.stream_out.specs.declared.record.RevisionSummary.{RevisionSummary}
use Rattle.stream_out.specs.Replays.{kept_details, revision_by}
use Rattle.stream_out.proofs.replay.Replay.revisions_of.Goals as goal

pub revisions-preserved : goal.revisions-preserved
revisions-preserved c =
    let found = λ (x : RevisionSummary). revision_by (kept_details c.args.self.now c.args.sequence x.document.raw) x in
    let pushed : c.push.new.self.items ≡ c.revisions.revisions.items ++ c.in-Some.revision ∷ [] = c.in_ok-push-in-Some.ensures.items in
    subst (λ (rs : List Revision). behind rs (each found (drop (c.revisions.one-index + 1) c.args.listed.now)) ≡ each found c.args.listed.now) (sym pushed)
    (each_more found c.args.listed.now c.revisions.revisions.items (each found c.args.listed.now) c.revisions.one-index _ c.in-Some.revision
    c.revisions.invariant (omega arith) (search rules) (sym c.in_ok-found.ensures ∙ c.in-Some.is))

pub returns-in-None : goal.returns-in-None
returns-in-None c =
    let found = λ (x : RevisionSummary). revision_by (kept_details c.args.self.now c.args.sequence x.document.raw) x in
    each_none found c.args.listed.now c.revisions.revisions.items (each found c.args.listed.now) c.revisions.one-index _
    c.revisions.invariant (omega arith) (search rules) (sym c.in_ok-found.ensures ∙ c.in-None.is)
