use Rattle.std.proofs.Common.{◌∙◌, Some, refl, sym, ap, arith}
use Rattle.std.specs.Option.{option_copied}
use Rattle.stream_out.specs.Same.{same_summary}
use Rattle.stream_out.proofs.Equals.{summary-tells}
use Rattle.stream_out.proofs.Kept.{other_is, summary_not_below}
use Rattle.stream_out.proofs.replay.Replay.admits_summary.Goals as goal

pub returns-in_default : goal.returns-in_default
returns-in_default c = (
  summary_not_below c.args.self.now.from c.args.summary.now (omega arith),
  sym c.get.ensures.value ∙ ap option_copied c.in_default.is,
)

pub returns-then-same_summary : goal.returns-then-same_summary
returns-then-same_summary c = (
  summary_not_below c.args.self.now.from c.args.summary.now (omega arith),
  sym c.get.ensures.value ∙ ap option_copied c.in-Some.is
      ∙ ap Some ((summary-tells c.in-Some.kept.now c.args.summary.now).0 (sym c.same_summary.ensures ∙ c.if-same_summary.true)),
)

pub returns-else-same_summary : goal.returns-else-same_summary
returns-else-same_summary c = (
  summary_not_below c.args.self.now.from c.args.summary.now (omega arith),
  refl,
  (
    c.in-Some.kept.now,
    sym c.get.ensures.value ∙ ap option_copied c.in-Some.is,
    other_is same_summary summary-tells c.in-Some.kept.now c.args.summary.now (sym c.same_summary.ensures ∙ c.if-same_summary.false),
  ),
)
