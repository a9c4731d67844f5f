use Rattle.std.proofs.Common.{◌≡◌}
use Rattle.workload.specs.Made.{made_sessions}
use Rattle.workload.proofs.jobs.made_sessions.Given as goal

-- the sessions so far
abbrev pub invariant-sessions : goal.invariant-sessions
invariant-sessions l = l.script ≡ made_sessions l.seed l.at l.transactions
