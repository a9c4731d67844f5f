use Rattle.std.proofs.Common.{subst, sym}
use Rattle.turn_lock.specs.Seats.{known}
use Rattle.ledger_shared.specs.Behind.{opening_of}
use Rattle.ledger_shared.specs.Known.{MayCommit}
use Rattle.ledger_shared.specs.Workers.{Ends, IsDone, WorkerHeld}
use Rattle.ledger_shared.specs.Ledgers.{opened_of}
use Rattle.ledger_shared.proofs.Attempts.{finishes}
use Rattle.ledger_shared.proofs.worker.WorkerSteps.finish.Goals as goal

pub commit_with-result-requires-clause-opens : goal.commit_with-result-requires-clause-opens
commit_with-result-requires-clause-opens g c =
    let told = g.S.JournalStore.told in
    subst (λ (w : WorkerHeld _ _). MayCommit (opening_of told w.opened) w.known c.args.txn) (sym c.self.view_is) c.requires.done.may

pub returns-clause-ends : goal.returns-clause-ends
returns-clause-ends g c first begun base since place =
    let told = g.S.JournalStore.told in
    let o = opening_of told (opened_of c.self.inside.ledger.now) in
    let k = known c.self.inside.pass in
    let now = known c.commit_with-result.new.pass in
    let done = subst (λ (w : WorkerHeld _ _). IsDone (opening_of told w.opened) c.args.job.now c.args.place c.args.txn w.known) (sym c.self.view_is) c.requires.done in
    subst (λ (w : WorkerHeld _ _). Ends (opening_of told w.opened) c.args.job.now c.args.place first w.known c.outcome_of.result now) c.self.view_is
    (subst (λ x. Ends o c.args.job.now c.args.place first k x now) (sym c.outcome_of.ensures)
    (finishes o c.args.job.now c.args.place first c.args.txn k now c.tx-tx.result c.since-since.result c.commit_with-result.result
    begun base since place c.tx-tx.ensures c.since-since.ensures done c.commit_with-result.ensures.commits))
