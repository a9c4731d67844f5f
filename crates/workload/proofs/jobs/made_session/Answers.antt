use Rattle.workload.proofs.Sessions.{session-next, stream-next}
use Rattle.workload.proofs.jobs.made_session.Goals as goal

pub jobs-preserved : goal.jobs-preserved
jobs-preserved c = record {
  made =
      session-next c.args.seed c.args.session c.jobs.at c.jobs.jobs c.push.new.self c.in_ok-made_job.field-0
      c.next_amount-amount.result c.jobs.words c.jobs.invariant.made c.jobs.invariant.next
      c.next_amount-amount.ensures.amount c.in_ok-made_job.ensures c.in_ok-push.ensures.ok;
  next =
      stream-next c.args.seed c.args.session c.jobs.at c.jobs.words c.next_amount-amount.new.words
      c.jobs.invariant.next c.next_amount-amount.ensures.next;
}
