use Rattle.std.proofs.Common.{◌<◌, List, ap, arith, length}
use Rattle.std.proofs.lemmas.List.{drop_all}
use Rattle.ledger_model.specs.declared.script.Job.{Job}
use Rattle.ledger_shared.specs.Sessions.{job_count}
use Rattle.ledger_shared.proofs.Serving.{all_at, room_left}
use Rattle.ledger_shared.proofs.session.count_jobs.Goals as goal

pub sessions-init : goal.sessions-init
sessions-init c = record { counted = omega arith; low = omega arith }

pub overflow_add-count : goal.overflow_add-count
overflow_add-count c =
    let jobs = c.jobs-item.result in
    let within = all_at (λ (js : List Job). length js < 4294967296) c.args.script.now c.sessions.jobs-index jobs c.requires.few.sessions c.sessions-test.true in
    omega (arith, c.sessions.invariant.low, c.len-count.ensures, within, ap length c.jobs-item.is, c.requires.few.few, c.sessions-test.true)

pub sessions-preserved : goal.sessions-preserved
sessions-preserved c =
    let jobs = c.jobs-item.result in
    let within = all_at (λ (js : List Job). length js < 4294967296) c.args.script.now c.sessions.jobs-index jobs c.requires.few.sessions c.sessions-test.true in
    let left = room_left c.sessions.jobs-index c.args.script.now jobs c.sessions-test.true c.jobs-item.is in
    record {
      counted = omega (arith, c.sessions.invariant.counted, c.len-count.ensures, left);
      low = omega (arith, c.sessions.invariant.low, c.len-count.ensures, within, ap length c.jobs-item.is);
    }

pub returns : goal.returns
returns c =
    omega (arith, c.sessions.invariant.counted, ap job_count (drop_all c.sessions.jobs-index c.args.script.now c.sessions-test.false))
