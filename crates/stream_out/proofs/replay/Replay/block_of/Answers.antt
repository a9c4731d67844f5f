use Rattle.std.proofs.Common.{◌∙◌, Some, ap, sym}
use Rattle.std.specs.Option.{option_copied}
use Rattle.stream_out.proofs.Kept.{block_kept, no_revisions_kept, no_summary_kept}
use Rattle.stream_out.proofs.replay.Replay.block_of.Goals as goal

pub returns-in_default : goal.returns-in_default
returns-in_default c =
    no_summary_kept c.args.self.now c.args.sequence (sym c.get.ensures.value ∙ ap option_copied c.in_default.is)

pub returns-in_default-2 : goal.returns-in_default-2
returns-in_default-2 c =
    no_revisions_kept c.args.self.now c.args.sequence c.in-Some.summary.now c.as_slice.result.now _
    (sym c.get.ensures.value ∙ ap option_copied c.in-Some.is) c.as_slice.ensures c.in_ok-revisions.ensures c.in_default-2.is

pub returns : goal.returns
returns c =
    ap Some c.block_with.ensures
    ∙ block_kept c.args.self.now c.args.sequence c.in-Some.summary.now c.as_slice.result.now _ c.in-Some-2.revisions c.in_ok-info.info
    (sym c.get.ensures.value ∙ ap option_copied c.in-Some.is) c.as_slice.ensures c.in_ok-revisions.ensures c.in-Some-2.is c.in_ok-info.ensures
