use Rattle.std.proofs.Common.{sym, ap, ◌∙◌}
use Rattle.ledger_model.specs.Making.{later_time}
use Rattle.ledger_core.proofs.LastBlock.{last_block-is}
use Rattle.ledger_core.proofs.sealing.time_behind.Goals as goal

pub returns-in-Some : goal.returns-in-Some
returns-in-Some c =
    c.later_time.ensures
    ∙ sym (ap (λ last. later_time last c.args.time) (last_block-is c.args.before.now c.in-Some.last.now (sym c.in-Some.ensures.value)))
