-- What a worker leaves of the sessions that it runs: an outcome for each job, in order, and what its pass knows.
use Rattle.std.specs.Prelude.{◌≡◌, ℕ, ◌+◌, ◌<◌, ◌^◌, ◌%◌, ◌==◌, List, [], ◌∷◌, ◌++◌, map, length}
use Rattle.std.specs.List.{AllByRecursion, filter}
use Rattle.ledger_model.specs.declared.outcome.PlacedOutcome.{PlacedOutcome}
use Rattle.ledger_model.specs.declared.script.Job.{Job}
use Rattle.ledger_model.specs.Script.{Placed}
use Rattle.turn_lock.specs.declared.view.Known.{Known}
use Rattle.laws_machine.specs.Entries.{Entry, Opening}
use Rattle.laws_history.specs.Runs.{Served, Works, told_of}

pub record Course : Type 0 where
  pub outcomes : List PlacedOutcome
  pub known : Known Entry

abbrev pub course : List PlacedOutcome → Known Entry → Course
course outcomes known = record { outcomes = outcomes; known = known }

-- Of these jobs those in front were run with one pass, one after another and each as often as it is retried, and these
-- are left. Their outcomes stand in order after those that were there.
pub record HasServed (o : Opening) (all left : List Placed) (first now : Course) : Type 0 where
  pub served : List Served
  pub jobs : map (λ (s : Served). s.placed) served ++ left ≡ all
  pub outcomes : now.outcomes ≡ first.outcomes ++ map told_of served
  pub works : Works o served first.known now.known

-- these jobs, which were left next, were run
abbrev pub Serves : Opening → List Placed → Course → Course → Type 0
Serves o placed before now =
    (all rest : List Placed) (first : Course) → HasServed o all (placed ++ rest) first before
    → HasServed o all rest first now

-- ---- sessions

-- the jobs of the sessions that a worker runs: those whose numbers leave one rest, divided by the number of workers
abbrev pub dealt_jobs : ℕ → ℕ → List Placed → List Placed
dealt_jobs workers rest placed = filter (λ (p : Placed). p.place.session % workers == rest) placed

-- sessions and transactions have numbers of 32 bits
pub record AreNumbered (script : List (List Job)) : Type 0 where
  pub sessions : AllByRecursion (λ (jobs : List Job). length jobs < 2 ^ 32) script
  pub few : length script < 2 ^ 32

-- how many jobs there are
abbrev pub job_count : List (List Job) → ℕ
job_count [] = 0
job_count (jobs ∷ sessions) = length jobs + job_count sessions
