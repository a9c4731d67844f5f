use Rattle.std.proofs.Common.{◌≡◌, ◌+◌, ◌*◌, ◌≤◌, drop}
use Rattle.ledger_shared.specs.Sessions.{job_count}
use Rattle.ledger_shared.proofs.session.count_jobs.Given as goal

-- so are all jobs of the sessions in front
abbrev pub invariant-sessions : goal.invariant-sessions
invariant-sessions l =
    record {
      counted : l.count + job_count (drop l.jobs-index l.script) ≡ job_count l.script;
      low : l.count ≤ l.jobs-index * 4294967296;
    }
