use Rattle.std.proofs.Common.{subst}
use Rattle.ledger_shared.specs.Behind.{IsRightFor, SharedHeld}
use Rattle.ledger_shared.proofs.Tailed.{right_of}
use Rattle.ledger_shared.proofs.shared.Shared.is_right.Goals as goal

pub returns : goal.returns
returns g c =
    let told = g.S.JournalStore.told in
    subst (λ (s : SharedHeld _ _). IsRightFor told s.opened s.entries) c.self.view_is
    (right_of told g.C.Clock.answers g.C.Clock.always c.self.inside.opened.value c.self.inside.tail c.self.inside.entries.items.items c.self.invariant
    c.blocks-2.ensures.standing)
