-- A run of a script by several workers: one history of entries, of which each worker makes its own with a pass, and the
-- law that such a run meets what is claimed of it (the ledger's own).
use Rattle.std.specs.Prelude.{◌≡◌, ℕ, ◌%◌, ◌<◌, ◌==◌, Bool, List, [], ◌∷◌, map, slice_get, Some}
use Rattle.std.specs.List.{filter}
use mathlib.Core.List.{IsPrefix}
use Rattle.ledger_model.specs.declared.outcome.Outcome.{Outcome}
use Rattle.ledger_model.specs.declared.outcome.PlacedOutcome.{PlacedOutcome}
use Rattle.ledger_model.specs.Script.{Placed}
use Rattle.session_driver.specs.Retries.{Retried}
use Rattle.turn_lock.specs.declared.view.Known.{Known}
use Rattle.turn_lock.specs.History.{Stands, placed}
use Rattle.laws_history.specs.Records.{RunRecord, HasMask, HaveTimes, greatest, made, mask_of, InOrder}
use Rattle.laws_machine.specs.Entries.{Entry, Opening}
use Rattle.laws_history.specs.Seen.{IsRight, blocks_in, reach}
use Rattle.laws_history.specs.Attempts.{Attempted}
use Rattle.laws_history.specs.Claims.{Fits}

-- ---- one worker

-- a job with the outcome that is told of it
pub record Served : Type 0 where
  pub placed : Placed
  pub outcome : Outcome

abbrev pub told_of : Served → PlacedOutcome
told_of s = record { place = s.placed.place; outcome = s.outcome }

-- The jobs are run one after another with one pass, each by a chain of attempts of which all but the last one met a
-- conflict.
abbrev pub Works : Opening → List Served → Known Entry → Known Entry → Type 0
Works o [] k now = k ≡ now
Works o (s ∷ ss) k now =
    (between : Known Entry)
    × Retried (Attempted o) s.placed.job s.placed.place k s.outcome between
    × Works o ss between now

-- Each of the workers runs the sessions whose numbers leave one rest, and that rest names it.
abbrev pub is_dealt : ℕ → ℕ → Served → Bool
is_dealt workers rest s = s.placed.place.session % workers == rest

abbrev pub dealt : ℕ → ℕ → List Served → List Served
dealt workers rest ss = filter (is_dealt workers rest) ss

-- the worker of this rest has run its jobs, whole and in the script's order, with a pass of its own
pub record HasWorked (o : Opening) (workers rest : ℕ) (ss : List Served) (now : Known Entry) : Type 0 where
  pub start : Known Entry
  pub owns_none : start.own ≡ []
  pub works : Works o (dealt workers rest ss) start now

-- ---- all workers

-- What the worker of each rest knows at its end is a beginning of the history, and each entry is some worker's own.
pub record AreWorkers (o : Opening) (workers : ℕ) (ss : List Served) (entries : List Entry)
    (pass_of : ℕ → Known Entry) : Type 0 where
  pub worked : (rest : ℕ) → rest < workers → HasWorked o workers rest ss (pass_of rest)
  pub seen : (rest : ℕ) → rest < workers → IsPrefix (pass_of rest).seen entries
  pub owned : (i : ℕ) (e : Entry) → slice_get entries i ≡ Some e
      → (rest : ℕ) × (rest < workers) × Stands (placed i e) (pass_of rest).own

-- what stood before the run
abbrev pub opening_of : RunRecord → Opening
opening_of t = record { mask = t.mask; blocks = t.before; last = greatest t.mask t.before; count = t.opened }

-- the record is that of a run of these jobs with these outcomes by its workers, which left this history
pub record IsRunBy (t : RunRecord) (ss : List Served) (entries : List Entry) (pass_of : ℕ → Known Entry) : Type 0 where
  pub jobs : t.jobs ≡ map (λ (s : Served). s.placed) ss
  pub outcomes : t.outcomes ≡ map told_of ss
  pub in_order : InOrder t.jobs
  pub masked : HasMask t
  pub strand : mask_of t.mask t.before ≡ t.mask
  pub right : IsRight (opening_of t) entries
  pub after : t.after ≡ blocks_in (opening_of t) entries
  pub times : HaveTimes t.times t.before (made t)
  pub closed : t.closed ≡ (reach (opening_of t) entries).count
  pub some : 0 < t.workers
  pub workers : AreWorkers (opening_of t) t.workers ss entries pass_of

-- the record is that of some run of its jobs
pub record WasRun (t : RunRecord) : Type 0 where
  pub served : List Served
  pub entries : List Entry
  pub pass_of : ℕ → Known Entry
  pub by : IsRunBy t served entries pass_of

-- ---- the law

abbrev pub RunsFit : Type 0
RunsFit =
    (t : RunRecord) (ss : List Served) (entries : List Entry) (pass_of : ℕ → Known Entry)
    → IsRunBy t ss entries pass_of → Fits t
