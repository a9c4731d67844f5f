use Rattle.workload.proofs.Sessions.{sessions-next}
use Rattle.workload.proofs.jobs.made_sessions.Goals as goal

pub sessions-preserved : goal.sessions-preserved
sessions-preserved c =
    sessions-next c.args.seed c.sessions.at c.args.transactions c.sessions.script c.push.new.self
    c.in_ok-made_session.field-0 c.sessions.invariant c.in_ok-made_session.ensures c.in_ok-push.ensures.ok
