use Rattle.ledger_shared.proofs.Recovering.{unmarked_is_safe}
use Rattle.ledger_shared.proofs.ledger.Ledger.unmarked_is_safe.Goals as goal

pub returns : goal.returns
returns g c opened = unmarked_is_safe g.S.JournalStore.told g.C.Clock.answers g.C.Clock.always opened c.unmarked_recovers.ensures
