use Rattle.std.proofs.Common.{refl, subst}
use Rattle.turn_lock.specs.Seats.{known}
use Rattle.ledger_model.specs.declared.outcome.Outcome.TheVariants.{IdsSpent, OutOfMemory}
use Rattle.ledger_shared.specs.Behind.{opening_of}
use Rattle.ledger_shared.specs.Workers.{Tries, WorkerHeld}
use Rattle.ledger_shared.specs.Ledgers.{opened_of, table_of}
use Rattle.ledger_shared.proofs.Working.{goes, is_at, is_fresh, spends, wants}
use Rattle.ledger_shared.proofs.worker.WorkerSteps.run_once.Goals as goal

pub run-requires-clause-fresh : goal.run-requires-clause-fresh
run-requires-clause-fresh g c =
    let o = opening_of g.S.JournalStore.told (opened_of c.self.inside.ledger.now) in
    is_fresh o (known c.self.inside.pass) c.args.place c.in-Ok.txn (known c.begin.new.pass) c.in-Ok.ensures.begins

pub run-requires-clause-goes_on : goal.run-requires-clause-goes_on
run-requires-clause-goes_on g c =
    let o = opening_of g.S.JournalStore.told (opened_of c.self.inside.ledger.now) in
    goes o (known c.self.inside.pass) c.args.place c.in-Ok.txn (known c.begin.new.pass) c.in-Ok.ensures.begins

pub run-requires-clause-at : goal.run-requires-clause-at
run-requires-clause-at g c =
    let o = opening_of g.S.JournalStore.told (opened_of c.self.inside.ledger.now) in
    is_at o (known c.self.inside.pass) c.args.place c.in-Ok.txn (known c.begin.new.pass) c.in-Ok.ensures.begins

pub returns-in-Ok : goal.returns-in-Ok
returns-in-Ok g c =
    let told = g.S.JournalStore.told in
    subst (λ (w : WorkerHeld _ _). Tries told w c.args.job.now c.args.place c.run.result c.run.new.self) c.self.view_is
    (record {
      table = c.run.ensures.table;
      opened = c.run.ensures.opened;
      attempted = c.run.ensures.ends (known c.self.inside.pass) c.in-Ok.ensures.begins;
    })

pub returns-in-Err-IdsSpent : goal.returns-in-Err-IdsSpent
returns-in-Err-IdsSpent g c =
    let told = g.S.JournalStore.told in
    let o = opening_of told (opened_of c.self.inside.ledger.now) in
    let k = known c.self.inside.pass in
    let now = known c.begin.new.pass in
    let after : WorkerHeld _ _ = record {
      table = table_of c.self.inside.ledger.now;
      opened = opened_of c.self.inside.ledger.now;
      known = now;
    } in
    let ends = rw c.in-Err-IdsSpent.field-0-is at c.in-Err-IdsSpent.ensures.begins in
    rw c.in-Err-IdsSpent.field-0-is (
    subst (λ (w : WorkerHeld _ _). Tries told w c.args.job.now c.args.place (IdsSpent c.in-Err-IdsSpent.last) after) c.self.view_is
    (record { table = refl; opened = refl; attempted = spends o c.args.job.now c.args.place k now c.in-Err-IdsSpent.last c.requires.admitted ends }))

pub returns-in-Err-OutOfMemory : goal.returns-in-Err-OutOfMemory
returns-in-Err-OutOfMemory g c =
    let told = g.S.JournalStore.told in
    let o = opening_of told (opened_of c.self.inside.ledger.now) in
    let k = known c.self.inside.pass in
    let now = known c.begin.new.pass in
    let after : WorkerHeld _ _ = record {
      table = table_of c.self.inside.ledger.now;
      opened = opened_of c.self.inside.ledger.now;
      known = now;
    } in
    let ends = rw c.in-Err-OutOfMemory.field-0-is at c.in-Err-OutOfMemory.ensures.begins in
    subst (λ (w : WorkerHeld _ _). Tries told w c.args.job.now c.args.place OutOfMemory after) c.self.view_is
    (record { table = refl; opened = refl; attempted = wants o c.args.job.now c.args.place k now ends })
