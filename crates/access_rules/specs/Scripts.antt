-- Scripts under rules: each job with what the rules deny its session of it (the ledger's own).
use Rattle.std.specs.Prelude.{ℕ, ◌+◌, List, [], ◌∷◌, map}
use Rattle.ledger_model.specs.declared.script.Job.{Job}
use Rattle.access_rules.specs.declared.rule.Rule.{Rule}
use Rattle.access_rules.specs.Permission.{denied}

abbrev pub job_under : List Rule → ℕ → Job → Job
job_under rules session job = record {
  statements = job.statements;
  retries = job.retries;
  digest = job.digest;
  abort = job.abort;
  denied = denied rules session job.statements;
}

abbrev pub session_under : List Rule → ℕ → List Job → List Job
session_under rules session jobs = map (job_under rules session) jobs

-- the sessions, of which the first one has this number
abbrev pub sessions_under : List Rule → ℕ → List (List Job) → List (List Job)
sessions_under rules session [] = []
sessions_under rules session (jobs ∷ more) =
    session_under rules session jobs ∷ sessions_under rules (session + 1) more

-- sessions are counted from 1
abbrev pub script_under : List Rule → List (List Job) → List (List Job)
script_under rules script = sessions_under rules 1 script
