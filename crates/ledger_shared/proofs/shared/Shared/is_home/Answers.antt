use Rattle.std.proofs.Common.{subst}
use Rattle.ledger_shared.specs.Behind.{Keeps, SharedHeld}
use Rattle.ledger_shared.proofs.shared.Shared.is_home.Goals as goal

pub returns-clause-keeps : goal.returns-clause-keeps
returns-clause-keeps g c =
    subst (λ (s : SharedHeld _ _). Keeps g.S.JournalStore.told g.C.Clock.answers g.C.Clock.always s.opened s.tail s.entries) c.self.view_is
    c.self.invariant
