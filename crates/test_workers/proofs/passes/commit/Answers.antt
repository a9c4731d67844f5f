use Rattle.std.proofs.Common.{◌∙◌, sym}
use Rattle.turn_lock.specs.Seats.{known}
use Rattle.ledger_shared.specs.Known.{MayCommit}
use Rattle.ledger_shared.specs.Ledgers.{begins_with}
use Rattle.test_workers.proofs.Taken.{at_some}
use Rattle.test_workers.proofs.passes.commit.Goals as goal

pub commit-requires-clause-opens : goal.commit-requires-clause-opens
commit-requires-clause-opens g c =
    let o = begins_with g.S.JournalStore.told c.args.ledger.now in
    let k = known c.begin.new.pass in
    c.make.ensures o k
    (at_some (λ t. MayCommit o k t) c.begin.result c.in_ok-txn.txn (sym c.ok.ensures.value ∙ c.in_ok-txn.was) c.begin.ensures.opens)
