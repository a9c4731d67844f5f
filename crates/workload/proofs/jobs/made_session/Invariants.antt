use Rattle.std.proofs.Common.{◌≡◌}
use Rattle.workload.specs.Made.{made_session, session_stream}
use Rattle.workload.proofs.jobs.made_session.Given as goal

-- the transactions so far, and the word of the next one
abbrev pub invariant-jobs : goal.invariant-jobs
invariant-jobs l = record {
  made : l.jobs ≡ made_session l.seed l.session l.at;
  next : l.words ≡ session_stream l.seed l.session l.at;
}
