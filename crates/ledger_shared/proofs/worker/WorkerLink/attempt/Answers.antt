use Rattle.ledger_shared.proofs.Working.{is_denied}
use Rattle.ledger_shared.proofs.worker.WorkerLink.attempt.Goals as goal

pub returns-in-Some : goal.returns-in-Some
returns-in-Some g c =
    is_denied g.S.JournalStore.told c.args.job.now c.args.place c.args.self.now c.in-Some.denial c.deny.result c.in-Some.is
    c.deny.ensures
