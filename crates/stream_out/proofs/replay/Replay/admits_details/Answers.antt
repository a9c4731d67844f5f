use Rattle.std.proofs.Common.{◌∙◌, Some, refl, sym, ap, arith}
use Rattle.std.specs.Option.{option_copied}
use Rattle.stream_out.specs.Same.{same_details}
use Rattle.stream_out.proofs.Equals.{details-tells}
use Rattle.stream_out.proofs.Kept.{other_is, details_not_below}
use Rattle.stream_out.proofs.replay.Replay.admits_details.Goals as goal

pub returns-in_default : goal.returns-in_default
returns-in_default c = (
  details_not_below c.args.self.now.from c.args.details.now (omega arith),
  sym c.get.ensures.value ∙ ap option_copied c.in_default.is,
)

pub returns-then-same_details : goal.returns-then-same_details
returns-then-same_details c = (
  details_not_below c.args.self.now.from c.args.details.now (omega arith),
  sym c.get.ensures.value ∙ ap option_copied c.in-Some.is
      ∙ ap Some ((details-tells c.in-Some.kept.now c.args.details.now).0 (sym c.same_details.ensures ∙ c.if-same_details.true)),
)

pub returns-else-same_details : goal.returns-else-same_details
returns-else-same_details c = (
  details_not_below c.args.self.now.from c.args.details.now (omega arith),
  refl,
  (
    c.in-Some.kept.now,
    sym c.get.ensures.value ∙ ap option_copied c.in-Some.is,
    other_is same_details details-tells c.in-Some.kept.now c.args.details.now (sym c.same_details.ensures ∙ c.if-same_details.false),
  ),
)
