use Rattle.session_driver.specs.Retries.{Conflicted}
use Rattle.session_driver.proofs.retries.run_job.Given as goal

-- each attempt so far answered a conflict
abbrev pub invariant-retries : goal.invariant-retries
invariant-retries g l = Conflicted g.L.Link.attempted l.job l.place l.retry l.initial.link l.link
