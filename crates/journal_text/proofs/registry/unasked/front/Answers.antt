use Rattle.std.proofs.Common.{◌∙◌, ◌-◌, refl, sym, arith}
use Rattle.journal_text.proofs.Asked.{front_here, front_none, none_at_end}
use Rattle.journal_text.proofs.registry.unasked.front.Goals as goal

pub later-init : goal.later-init
later-init c = record { within = omega arith; none = none_at_end c.args.blocks.now _ refl }

pub returns-else-not-redacts_any : goal.returns-else-not-redacts_any
returns-else-not-redacts_any c =
    front_here c.args.blocks.now (c.later.end - 1) c.later.end c.index-blocks-end.result (omega arith) (omega arith) c.index-blocks-end.is
    (sym c.redacts_any.ensures ∙ c.if-not-redacts_any.false) c.later.invariant.none

pub returns-after-later : goal.returns-after-later
returns-after-later c = front_none c.args.blocks.now c.later.end (omega arith) c.later.invariant.none
