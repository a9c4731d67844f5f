use Rattle.std.proofs.Common.{◌∙◌, ap}
use Rattle.turn_lock.specs.Seats.{Rests, known}
use Rattle.ledger_model.specs.Script.{Placed}
use Rattle.ledger_shared.specs.Behind.{IsRightFor}
use Rattle.ledger_shared.specs.Ledgers.{opened_of, table_of}
use Rattle.ledger_shared.specs.Told.{all_told}
use Rattle.ledger_shared.proofs.Chains.{stays}
use Rattle.run_after_setup.proofs.RanAlone.{closed_alone, in_only, only_of}
use Rattle.run_after_setup.proofs.alone.run_alone.Goals as goal

pub close-tail-requires-clause-each : goal.close-tail-requires-clause-each
close-tail-requires-clause-each g c i d low =
    let told = g.S.JournalStore.told in
    let run = c.run_job-outcome in
    let ledger = c.in-Ok.ledger in
    let one = stays told c.args.setup.now.job.now c.args.setup.now.place c.new-worker.result run.new.link run.result run.ensures in
    in_only (λ table opened pass. Rests (IsRightFor told) table opened pass) c.new-worker.result run.new.link (table_of ledger) (opened_of ledger)
    one.table one.opened (ap (λ w. w.table) c.new-worker.ensures) (ap (λ w. w.opened) c.new-worker.ensures) c.into_pass.result c.into_pass.ensures.pass
    c.keep.new.passes.items
    (only_of c.keep.new.passes.items c.reserve.new.self.items c.new-passes.result.items c.into_pass.result c.keep.ensures c.reserve.ensures.items
    c.new-passes.ensures.items) i d low

pub returns-in-Ok-clause-ran : goal.returns-in-Ok-clause-ran
returns-in-Ok-clause-ran g c =
    let closed = c.close-tail in
    let run = c.run_job-outcome in
    let opened = opened_of c.in-Ok.ledger in
    let p : Placed = record { place = c.args.setup.now.place; job = c.args.setup.now.job.now } in
    closed_alone g.S.JournalStore.told g.C.Clock.answers g.C.Clock.always opened c.args.tail closed.result.tail c.in-Ok.ensures.opened
    (all_told closed.result.tail.standing.mask closed.result.entries.items.items) known c.keep.new.passes.items c.into_pass.result
    (only_of c.keep.new.passes.items c.reserve.new.self.items c.new-passes.result.items c.into_pass.result c.keep.ensures c.reserve.ensures.items
    c.new-passes.ensures.items) closed.ensures.keeps closed.ensures.right closed.ensures.seen closed.ensures.once p run.result c.new-worker.result
    run.new.link (ap (λ w. w.opened) c.new-worker.ensures) (ap (λ w. w.known) c.new-worker.ensures ∙ c.in-Ok.ensures.known)
    c.into_pass.ensures.known run.ensures
