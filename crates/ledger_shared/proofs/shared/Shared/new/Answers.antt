use Rattle.std.proofs.Common.{List, [], sym, subst}
use Rattle.ledger_core.specs.Tails.{TailHeld}
use Rattle.ledger_shared.specs.declared.entry.Entry as kept
use Rattle.ledger_shared.specs.Behind.{Keeps}
use Rattle.ledger_shared.specs.Told.{all_told}
use Rattle.ledger_shared.proofs.Tailed.{keeps_none}
use Rattle.ledger_shared.proofs.shared.Shared.new.Goals as goal

pub invariant_of-result : goal.invariant_of-result
invariant_of-result g c =
    let told = g.S.JournalStore.told in
    subst (λ (es : List kept.Entry). Keeps told g.C.Clock.answers g.C.Clock.always c.of-opened.result.value c.args.tail (all_told c.args.tail.standing.mask es))
    (sym c.new.ensures)
    (subst (λ (t : TailHeld _ _). Keeps told g.C.Clock.answers g.C.Clock.always t c.args.tail []) (sym c.of-opened.ensures)
    (keeps_none told g.C.Clock.answers g.C.Clock.always c.args.tail c.blocks-2.ensures.standing))
