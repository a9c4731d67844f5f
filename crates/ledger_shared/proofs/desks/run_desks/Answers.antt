use Rattle.std.proofs.Common.{◌≡◌, [], ap, arith, length, map, subst, sym}
use Rattle.atomic_table.specs.Seated.{TableId}
use Rattle.turn_lock.specs.History.{AreWhole}
use Rattle.turn_lock.specs.Rule.{Each}
use Rattle.turn_lock.specs.Seats.{known}
use Rattle.ledger_model.specs.Script.{all_placed}
use Rattle.ledger_core.specs.Tails.{TailHeld}
use Rattle.ledger_shared.specs.Behind.{opening_of}
use Rattle.ledger_shared.specs.Desks.{AreReady, HaveWorked}
use Rattle.ledger_shared.proofs.Ended.{have_come_back}
use Rattle.ledger_shared.proofs.Setting.{are_at, owns_none}
use Rattle.ledger_shared.proofs.desks.run_desks.Goals as goal

-- all desks have worked

pub work-requires-clause-ready : goal.work-requires-clause-ready
work-requires-clause-ready g c κs within =
    let worker = c.args.worker in
    let ready : AreReady worker.table worker.opened c.as_mut_slice.result.now =
    subst (λ ds. AreReady worker.table worker.opened ds) (sym c.as_mut_slice.ensures.value) c.set_up.ensures.ready in
    let whole : (table : TableId) × (opened : TailHeld _ _) × AreReady table opened c.as_mut_slice.result.now = (worker.table, worker.opened, ready) in
    whole

pub returns-in-Ok-set_up-clause-each : goal.returns-in-Ok-set_up-clause-each
returns-in-Ok-set_up-clause-each g c =
    let worker = c.args.worker in
    let before = c.set_up.new.desks in
    let long = ap length c.as_mut_slice.ensures.value in
    let ended =
    have_come_back g.S.JournalStore.told worker.table worker.opened (length c.as_mut_slice.result.now) (all_placed c.args.deal.now.script.now) c.work.new.outcomes.items
    before.len before.items c.work.new.desks (omega (arith, c.work.auto.desks, long)) (omega (arith, before.ok.0))
    (c.work.ensures worker.table worker.opened (subst (λ ds. AreReady worker.table worker.opened ds) (sym c.as_mut_slice.ensures.value) c.set_up.ensures.ready)) in
    c.clear.ensures.each worker.table worker.opened ended.of

pub returns-in-Ok-set_up-clause-whole : goal.returns-in-Ok-set_up-clause-whole
returns-in-Ok-set_up-clause-whole g c =
    let worker = c.args.worker in
    let before = c.set_up.new.desks in
    let long = ap length c.as_mut_slice.ensures.value in
    let ended =
    have_come_back g.S.JournalStore.told worker.table worker.opened (length c.as_mut_slice.result.now) (all_placed c.args.deal.now.script.now) c.work.new.outcomes.items
    before.len before.items c.work.new.desks (omega (arith, c.work.auto.desks, long)) (omega (arith, before.ok.0))
    (c.work.ensures worker.table worker.opened (subst (λ ds. AreReady worker.table worker.opened ds) (sym c.as_mut_slice.ensures.value) c.set_up.ensures.ready)) in
    subst AreWhole (sym c.clear.ensures.known) ended.whole

pub returns-in-Ok-set_up-clause-worked : goal.returns-in-Ok-set_up-clause-worked
returns-in-Ok-set_up-clause-worked g c =
    let told = g.S.JournalStore.told in
    let worker = c.args.worker in
    let jobs = all_placed c.args.deal.now.script.now in
    let outcomes = c.work.new.outcomes.items in
    let before = c.set_up.new.desks in
    let long = ap length c.as_mut_slice.ensures.value in
    let ended =
    have_come_back g.S.JournalStore.told worker.table worker.opened (length c.as_mut_slice.result.now) (all_placed c.args.deal.now.script.now) c.work.new.outcomes.items
    before.len before.items c.work.new.desks (omega (arith, c.work.auto.desks, long)) (omega (arith, before.ok.0))
    (c.work.ensures worker.table worker.opened (subst (λ ds. AreReady worker.table worker.opened ds) (sym c.as_mut_slice.ensures.value) c.set_up.ensures.ready)) in
    let many : length c.as_mut_slice.result.now ≡ c.args.deal.now.workers =
    omega (arith, ap length c.as_mut_slice.ensures.value, c.in-Ok-set_up.ensures.all, c.set_up.new.desks.ok.0) in
    subst (λ n. HaveWorked (opening_of told worker.opened) n jobs (map known c.clear.new.passes.items) outcomes) many
    (subst (λ ks. HaveWorked (opening_of told worker.opened) (length c.as_mut_slice.result.now) jobs ks outcomes) (sym c.clear.ensures.known) ended.worked)

-- memory was wanted at some desk

pub returns-in-Err-clause-each : goal.returns-in-Err-clause-each
returns-in-Err-clause-each g c =
    let worker = c.args.worker in
    c.clear-in-Err.ensures.each worker.table worker.opened (are_at worker.table worker.opened c.set_up.new.desks.items c.set_up.ensures.ready)

pub returns-in-Err-clause-whole : goal.returns-in-Err-clause-whole
returns-in-Err-clause-whole g c = subst AreWhole (sym c.clear-in-Err.ensures.known) c.set_up.ensures.ready.whole

pub returns-in-Err-clause-idle : goal.returns-in-Err-clause-idle
returns-in-Err-clause-idle g c =
    let worker = c.args.worker in
    subst (Each (λ k. k.own ≡ [])) (sym c.clear-in-Err.ensures.known)
    (owns_none worker.table worker.opened c.set_up.new.desks.items c.set_up.ensures.ready)
