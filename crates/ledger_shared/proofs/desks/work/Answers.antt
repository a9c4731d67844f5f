use Rattle.std.proofs.Common.{[], arith}
use Rattle.ledger_shared.proofs.Ended.{dealt_some, has_ended, one_of}
use Rattle.ledger_shared.proofs.desks.work.Goals as goal

pub merge-requires-clause-dealt : goal.merge-requires-clause-dealt
merge-requires-clause-dealt g c =
    let ready = c.requires.ready in
    dealt_some g.S.JournalStore.told ready.0 ready.1 c.args.script.now c.args.desks.now c.run_workers.new.desks c.run_workers.new.desks [] ready.2
    c.requires.some (omega arith) (omega arith) c.run_workers.ensures (one_of c.args.desks.now c.requires.some)

pub returns : goal.returns
returns g c table opened ready =
    has_ended g.S.JournalStore.told table opened c.args.script.now c.args.desks.now c.run_workers.new.desks c.merge.new.desks c.merge.new.outcomes.items ready
    c.requires.some (omega arith) (omega arith) c.run_workers.ensures (one_of c.args.desks.now c.requires.some) c.merge.ensures.merged c.merge.ensures.workers
