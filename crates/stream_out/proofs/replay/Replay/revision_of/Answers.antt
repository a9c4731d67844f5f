use Rattle.std.proofs.Common.{◌∙◌, ap, sym}
use Rattle.std.specs.Option.{option_copied}
use Rattle.stream_out.specs.Replays.{kept_details}
use Rattle.stream_out.proofs.Kept.{not_kept, other_kept, revision_kept}
use Rattle.stream_out.proofs.replay.Replay.revision_of.Goals as goal

pub returns-in_default : goal.returns-in_default
returns-in_default c =
    not_kept (kept_details c.args.self.now c.args.sequence c.args.listed.now.document.raw) c.args.listed.now
    (sym c.get.ensures.value ∙ ap option_copied c.in_default.is)

pub returns-then-not-same_hash : goal.returns-then-not-same_hash
returns-then-not-same_hash c =
    other_kept (kept_details c.args.self.now c.args.sequence c.args.listed.now.document.raw) c.in-Some.details.now c.args.listed.now
    (sym c.get.ensures.value ∙ ap option_copied c.in-Some.is) (sym c.same_hash.ensures ∙ c.if-not-same_hash.true)

pub returns : goal.returns
returns c =
    revision_kept (kept_details c.args.self.now c.args.sequence c.args.listed.now.document.raw) c.in-Some.details.now c.args.listed.now
    c.in_ok-revision.revision (sym c.get.ensures.value ∙ ap option_copied c.in-Some.is) (sym c.same_hash.ensures ∙ c.if-not-same_hash.false)
    c.in_ok-revision.ensures
