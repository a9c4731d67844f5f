use Rattle.std.proofs.Common.{map}
use mathlib.Core.List.{IsPrefix}
use Rattle.turn_lock.specs.History.{AreWhole, OwnedOnce}
use Rattle.turn_lock.specs.Rule.{Each}
use Rattle.turn_lock.specs.Seats.{known, seen}
use Rattle.ledger_shared.specs.Behind.{IsRightFor}
use Rattle.ledger_shared.specs.Ledgers.{opened_of}
use Rattle.ledger_shared.proofs.Closing.{for_entries, keeps_still}
use Rattle.ledger_shared.proofs.ledger.Ledger.close.Goals as goal

pub returns-clause-keeps : goal.returns-clause-keeps
returns-clause-keeps g c =
    let parts = c.into_parts-parts in
    keeps_still g.S.JournalStore.told c.close-shared.result parts.result.0 parts.result.1.items.items parts.ensures.tail parts.ensures.entries
    g.C.Clock.answers g.C.Clock.always (opened_of c.args.self) c.close-shared.ensures.opening parts.ensures.keeps

pub returns-clause-right : goal.returns-clause-right
returns-clause-right g c =
    let parts = c.into_parts-parts in
    for_entries g.S.JournalStore.told c.close-shared.result parts.result.0 parts.result.1.items.items parts.ensures.tail parts.ensures.entries
    (λ es. IsRightFor g.S.JournalStore.told (opened_of c.args.self) es) c.close-shared.ensures.right

pub returns-clause-seen : goal.returns-clause-seen
returns-clause-seen g c =
    let parts = c.into_parts-parts in
    for_entries g.S.JournalStore.told c.close-shared.result parts.result.0 parts.result.1.items.items parts.ensures.tail parts.ensures.entries
    (λ es. Each (λ p. IsPrefix (seen p) es) c.args.passes.items) c.close-shared.ensures.seen

pub returns-clause-once : goal.returns-clause-once
returns-clause-once g c =
    let parts = c.into_parts-parts in
    for_entries g.S.JournalStore.told c.close-shared.result parts.result.0 parts.result.1.items.items parts.ensures.tail parts.ensures.entries
    (λ es. AreWhole (map known c.args.passes.items) → OwnedOnce es (map known c.args.passes.items)) c.close-shared.ensures.once
