use Rattle.std.proofs.Common.{◌≡◌, ◌+◌, ◌<◌, List, ap, ◌∙◌, arith, length, refl}
use Rattle.ledger_model.specs.declared.script.Job.{Job}
use Rattle.ledger_model.specs.Script.{all_placed, all_placed_from}
use Rattle.ledger_shared.specs.Sessions.{dealt_jobs}
use Rattle.ledger_shared.proofs.Serving.{all_at, count_done, count_left, count_of}
use Rattle.ledger_shared.proofs.session.dealt_count.Goals as goal

pub sessions-init : goal.sessions-init
sessions-init c =
    let all : length (dealt_jobs c.args.share.workers c.args.share.rest (all_placed_from 1 c.args.script.now))
    ≡ length (dealt_jobs c.args.share.workers c.args.share.rest (all_placed c.args.script.now)) = refl in
    record { counted = omega (arith, all); low = omega arith }

pub overflow_add-count : goal.overflow_add-count
overflow_add-count c =
    let jobs = c.index-script-at.result in
    let within = all_at (λ (js : List Job). length js < 4294967296) c.args.script.now c.sessions.at jobs c.requires.few.sessions c.sessions-test.true in
    omega (arith, c.sessions.invariant.low, c.share_of-count.ensures.low, c.len.ensures, within, ap length c.index-script-at.is, c.requires.few.few, c.sessions-test.true)

pub sessions-preserved : goal.sessions-preserved
sessions-preserved c =
    let jobs = c.index-script-at.result in
    let within = all_at (λ (js : List Job). length js < 4294967296) c.args.script.now c.sessions.at jobs c.requires.few.sessions c.sessions-test.true in
    let share = count_of c.args.share.workers c.args.share.rest (c.sessions.at + 1) c.share_of-count.result jobs (λ e. c.share_of-count.ensures.dealt e ∙ c.len.ensures) c.share_of-count.ensures.other in
    let left = count_left c.args.share.workers c.args.share.rest c.sessions.at c.args.script.now jobs c.sessions-test.true c.index-script-at.is in
    record {
      counted = omega (arith, c.sessions.invariant.counted, share, left);
      low = omega (arith, c.sessions.invariant.low, c.share_of-count.ensures.low, c.len.ensures, within, ap length c.index-script-at.is);
    }

pub returns : goal.returns
returns c =
    omega (arith, c.sessions.invariant.counted, count_done c.args.share.workers c.args.share.rest c.sessions.at c.args.script.now c.sessions-test.false)
