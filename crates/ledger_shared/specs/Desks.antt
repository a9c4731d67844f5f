-- The desks of a run: before it, and what they leave.
use Rattle.std.specs.Prelude.{◌≡◌, ℕ, ◌+◌, ◌<◌, ◌≤◌, ◌%◌, ◌==◌, List, [], map, length, slice_get, slice_index_or, vec_capacity, vec_len, Some}
use Rattle.std.specs.List.{filter}
use Rattle.atomic_table.specs.Seated.{TableId}
use Rattle.outside.specs.Told.{StoreTold}
use Rattle.ledger_model.specs.declared.outcome.PlacedOutcome.{PlacedOutcome}
use Rattle.ledger_model.specs.declared.script.Job.{Job}
use Rattle.ledger_model.specs.Script.{Placed, all_placed}
use Rattle.turn_lock.specs.declared.view.Known.{Known}
use Rattle.turn_lock.specs.History.{AreWhole}
use Rattle.turn_lock.specs.Rule.{Each}
use Rattle.laws_machine.specs.Entries.{Entry, Opening}
use Rattle.laws_history.specs.Runs.{HasWorked, Served, told_of}
use Rattle.ledger_core.specs.Tails.{TailHeld}
use Rattle.ledger_shared.specs.declared.workers.Desk.{Desk}
use Rattle.ledger_shared.specs.Behind.{opening_of}
use Rattle.ledger_shared.specs.Sessions.{dealt_jobs}
use Rattle.ledger_shared.specs.Workers.{WorkerHeld}

module _ {S C : Type 0} where
  -- the worker is of the ledger of this table
  abbrev pub IsOf : TableId → TailHeld S C → WorkerHeld S C → Type 0
  IsOf table opened w = (w.table ≡ table) × (w.opened ≡ opened)

module _ {S C G : Type 0} where
  -- what the passes of all desks know
  abbrev pub knowns : List (Desk S C G) → List (Known Entry)
  knowns ds = map (λ (d : Desk S C G). d.worker.known) ds

  -- the desk's worker is of the ledger
  abbrev pub IsAt : TableId → TailHeld S C → Desk S C G → Type 0
  IsAt table opened d = IsOf table opened d.worker

  -- so it is, and it has made nothing
  abbrev pub IsIdle : TableId → TailHeld S C → Desk S C G → Type 0
  IsIdle table opened d = IsAt table opened d × (d.worker.known.own ≡ []) × (d.outcomes.items ≡ [])

  -- so are all of them, and they have all passes of the ledger
  pub record AreReady (table : TableId) (opened : TailHeld S C) (desks : List (Desk S C G)) : Type 0 where
    pub idle : Each (IsIdle table opened) desks
    pub whole : AreWhole (knowns desks)

  -- the desk at this place, counted from 0, has room for the outcomes of the jobs that are dealt to its worker
  abbrev pub HasRoom : (workers : ℕ) → List (List Job) → ℕ → Desk S C G → Type 0
  HasRoom workers script place d =
      vec_len d.outcomes + length (dealt_jobs workers ((place + 1) % workers) (all_placed script))
      ≤ vec_capacity d.outcomes

  abbrev pub HaveRoom : (workers : ℕ) → List (List Job) → List (Desk S C G) → Type 0
  HaveRoom workers script desks =
      (i : ℕ) (d : Desk S C G) → i < length desks → HasRoom workers script i (slice_index_or desks i d)

-- ---- the outcomes in the script's order

-- the outcomes of the worker whose sessions leave this rest
abbrev pub dealt_outcomes : ℕ → ℕ → List PlacedOutcome → List PlacedOutcome
dealt_outcomes workers rest outcomes = filter (λ (o : PlacedOutcome). o.place.session % workers == rest) outcomes

module _ {S C G : Type 0} where
  -- these are the outcomes of all jobs in the script's order, and each desk has those of its own
  pub record AreDealt (script : List (List Job)) (desks : List (Desk S C G)) (outcomes : List PlacedOutcome)
      : Type 0 where
    pub places : map (λ (o : PlacedOutcome). o.place) outcomes ≡ map (λ (p : Placed). p.place) (all_placed script)
    pub dealt : (i : ℕ) (d : Desk S C G) → i < length desks
        → (slice_index_or desks i d).outcomes.items ≡ dealt_outcomes (length desks) ((i + 1) % length desks) outcomes

-- The jobs were run, each one by the worker that it is dealt to, and these are their outcomes in order. The passes are
-- those of the workers, from the first one's on.
pub record HaveWorked (o : Opening) (workers : ℕ) (jobs : List Placed) (passes : List (Known Entry))
    (outcomes : List PlacedOutcome) : Type 0 where
  pub as_many : length passes ≡ workers
  pub served : List Served
  pub jobs_are : jobs ≡ map (λ (s : Served). s.placed) served
  pub outcomes_are : outcomes ≡ map told_of served
  pub worked : (i : ℕ) (k : Known Entry) → slice_get passes i ≡ Some k
      → HasWorked o workers ((i + 1) % workers) served k

module _ {S C G : Type 0} (told : S → StoreTold) where
  -- So they were, by the workers of these desks, which are of the ledger.
  pub record HaveEnded (table : TableId) (opened : TailHeld S C) (workers : ℕ) (jobs : List Placed)
      (desks : List (Desk S C G)) (outcomes : List PlacedOutcome) : Type 0 where
    pub of : Each (IsAt table opened) desks
    pub whole : AreWhole (knowns desks)
    pub worked : HaveWorked (opening_of told opened) workers jobs (knowns desks) outcomes
