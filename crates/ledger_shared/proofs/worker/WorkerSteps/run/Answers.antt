use Rattle.std.proofs.Common.{subst, sym}
use Rattle.turn_lock.specs.Seats.{known}
use Rattle.ledger_model.specs.declared.outcome.Outcome.TheVariants.{Aborted, OutOfMemory, Refused}
use Rattle.ledger_shared.specs.Behind.{opening_of}
use Rattle.ledger_shared.specs.Known.{MayCommit}
use Rattle.ledger_shared.specs.Ledgers.{opened_of}
use Rattle.ledger_shared.specs.Workers.{Ends, WorkerHeld}
use Rattle.ledger_shared.proofs.Working.{is_done, is_given_up, is_refused, is_wanted, same_txn}
use Rattle.ledger_shared.proofs.worker.WorkerSteps.run.Goals as goal

pub finish-requires : goal.finish-requires
finish-requires g c =
    let told = g.S.JournalStore.told in
    let o = opening_of told (opened_of c.self.inside.ledger.now) in
    let d = c.in-Ok-Done.txn in
    let may = subst (λ (w : WorkerHeld _ _). MayCommit (opening_of told w.opened) w.known c.args.txn) (sym c.self.view_is) c.requires.may in
    record {
      done = is_done o c.args.job.now c.args.place c.args.txn c.in-Ok-Done.field-0 c.as_slice.result.now c.as_slice.ensures c.in-Ok-Done.ensures.ran c.in-Ok-Done.ensures.of
          (known c.self.inside.pass) d c.in-Ok-Done.field-0-is may c.requires.goes_on c.if-job.false
          c.requires.admitted;
    }

pub returns-then-job-clause-ends : goal.returns-then-job-clause-ends
returns-then-job-clause-ends g c =
    let told = g.S.JournalStore.told in
    let o = opening_of told (opened_of c.self.inside.ledger.now) in
    let k = known c.self.inside.pass in
    let outcome = Aborted c.tx-tx.result c.since-since.result in
    subst (λ (w : WorkerHeld _ _). Ends (opening_of told w.opened) c.args.job.now c.args.place c.args.txn w.known outcome k) c.self.view_is
    (is_given_up o c.args.job.now c.args.place c.args.txn c.in-Ok-Done.field-0 c.as_slice.result.now c.as_slice.ensures c.in-Ok-Done.ensures.ran c.in-Ok-Done.ensures.of
    k c.in-Ok-Done.txn c.tx-tx.result c.since-since.result c.in-Ok-Done.field-0-is c.tx-tx.ensures c.since-since.ensures c.if-job.true
    c.requires.admitted)

pub returns-else-job-clause-ends : goal.returns-else-job-clause-ends
returns-else-job-clause-ends g c =
    let told = g.S.JournalStore.told in
    let o = opening_of told (opened_of c.self.inside.ledger.now) in
    let now = c.finish.new.self.known in
    let same =
    same_txn o c.args.job.now c.args.place c.args.txn c.in-Ok-Done.field-0 c.as_slice.result.now c.as_slice.ensures c.in-Ok-Done.ensures.ran c.in-Ok-Done.ensures.of
    c.in-Ok-Done.txn c.in-Ok-Done.field-0-is in
    subst (λ (w : WorkerHeld _ _). Ends (opening_of told w.opened) c.args.job.now c.args.place c.args.txn w.known c.finish.result now) c.self.view_is
    (c.finish.ensures.ends c.args.txn same.0 same.1 same.2 same.3)

pub returns-in-Ok-Refused-clause-ends : goal.returns-in-Ok-Refused-clause-ends
returns-in-Ok-Refused-clause-ends g c =
    let told = g.S.JournalStore.told in
    let o = opening_of told (opened_of c.self.inside.ledger.now) in
    let k = known c.self.inside.pass in
    let outcome = Refused c.tx-tx.result c.since-since.result c.in-Ok-Refused.statement c.in-Ok-Refused.cause in
    subst (λ (w : WorkerHeld _ _). Ends (opening_of told w.opened) c.args.job.now c.args.place c.args.txn w.known outcome k) c.self.view_is
    (is_refused o c.args.job.now c.args.place c.args.txn c.in-Ok-Refused.field-0 c.as_slice.result.now c.as_slice.ensures c.in-Ok-Refused.ensures.ran c.in-Ok-Refused.ensures.of
    k c.tx-tx.result c.since-since.result c.in-Ok-Refused.statement c.in-Ok-Refused.cause c.in-Ok-Refused.field-0-is c.tx-tx.ensures c.since-since.ensures
    c.requires.admitted)

pub returns-in-Err-clause-ends : goal.returns-in-Err-clause-ends
returns-in-Err-clause-ends g c =
    let told = g.S.JournalStore.told in
    let o = opening_of told (opened_of c.self.inside.ledger.now) in
    let k = known c.self.inside.pass in
    subst (λ (w : WorkerHeld _ _). Ends (opening_of told w.opened) c.args.job.now c.args.place c.args.txn w.known OutOfMemory k) c.self.view_is
    (is_wanted o c.args.job.now c.args.place c.args.txn k)
