use Rattle.std.proofs.Common.{◌-◌, arith}
use Rattle.ledger_shared.proofs.Setting.{last_ready, next_room, on_ok}
use Rattle.ledger_shared.proofs.desks.set_up.Goals as goal

pub returns-clause-ready : goal.returns-clause-ready
returns-clause-ready g c =
    let others = c.add_others-others in
    let own = c.add_desk-own in
    let added = own.ensures.added in
    last_ready others.new.desks.items own.new.desks.items added.0 others.new.last added.1 added.2 c.args.worker.table c.args.worker.opened
    (others.ensures.table, others.ensures.opened) others.ensures.own added.3 others.ensures.idle others.ensures.whole

pub returns-in_err-others-clause-ready : goal.returns-in_err-others-clause-ready
returns-in_err-others-clause-ready g c =
    let others = c.add_others-others in
    let own = c.add_desk-own in
    let added = own.ensures.added in
    last_ready others.new.desks.items own.new.desks.items added.0 others.new.last added.1 added.2 c.args.worker.table c.args.worker.opened
    (others.ensures.table, others.ensures.opened) others.ensures.own added.3 others.ensures.idle others.ensures.whole

pub returns-clause-room : goal.returns-clause-room
returns-clause-room g c =
    let others = c.add_others-others in
    let own = c.add_desk-own in
    let added = own.ensures.added in
    on_ok c.add_desk-own.result
    (λ room.
    next_room others.new.desks.items own.new.desks.items added.0 others.new.last added.1 added.2 c.args.deal.now.workers c.args.deal.now.script.now (c.args.deal.now.workers - 1)
    (omega (arith, c.in_ok-others.ensures.all, others.new.desks.ok.0)) room c.in_ok-others.ensures.room)
    added.4
