-- A worker of the ledger: what it knows, and what one attempt at a job's transaction does to that.
use Rattle.std.specs.Prelude.{◌≡◌, ◌⊎◌, ℕ, false, refl, List, None}
use Rattle.std.specs.Coded.{Coded, code_by, coded×, coded_ℕ, coded_list}
use Rattle.ql_types.specs.declared.Place.{Place}
use Rattle.ledger_model.specs.declared.outcome.Outcome.{Outcome}
use Rattle.ledger_model.specs.declared.outcome.Outcome.TheVariants.{Denied, OutOfMemory}
use Rattle.ledger_model.specs.Run.{ran, run}
use Rattle.ledger_model.specs.declared.script.Denial.{Denial}
use Rattle.ledger_model.specs.declared.script.Job.{Job}
use Rattle.outside.specs.Told.{StoreTold}
use Rattle.atomic_table.specs.Seated.{TableId, table_id_coded}
use Rattle.turn_lock.specs.declared.view.Known.{Known}
use Rattle.turn_lock.specs.declared.view.Placed.{Placed}
use Rattle.laws_machine.specs.Entries.{Entry, Opening}
use Rattle.laws_history.specs.Attempts.{Attempted}
use Rattle.txn_core.specs.Opened.{Opened}
use Rattle.ledger_core.specs.Tails.{TailHeld, tail_code}
use Rattle.ledger_shared.specs.EntryCode.{entry_code}
use Rattle.ledger_shared.specs.Behind.{opening_of}
use Rattle.ledger_shared.specs.Calls.{Opens}
use Rattle.ledger_shared.specs.Known.{Calls, MayCommit}

-- of which ledger it is, with the tail as it was when that was made, and what its pass knows
pub record WorkerHeld (S C : Type 0) : Type 0 where
  pub table : TableId
  pub opened : TailHeld S C
  pub known : Known Entry

abbrev pub placed_code : Coded (Placed Entry)
placed_code =
    code_by (ℕ × Entry) (coded× coded_ℕ entry_code) (λ p. (p.place, p.entry))
    (λ p. record { place = p.0; entry = p.1 }) (λ _. refl)

abbrev pub known_code : Coded (Known Entry)
known_code =
    code_by (List ℕ × (ℕ × (List Entry × List (Placed Entry))))
    (coded× (coded_list coded_ℕ) (coded× coded_ℕ (coded× (coded_list entry_code) (coded_list placed_code))))
    (λ k. (k.name, (k.splits, (k.seen, k.own))))
    (λ p. record { name = p.0; splits = p.1.0; seen = p.1.1.0; own = p.1.1.1 }) (λ _. refl)

abbrev pub worker_code : {S C : Type 0} → Coded S → Coded C → Coded (WorkerHeld S C)
worker_code {S} {C} store clock =
    code_by (TableId × (TailHeld S C × Known Entry)) (coded× table_id_coded (coded× (tail_code store clock) known_code))
    (λ w. (w.table, (w.opened, w.known))) (λ p. record { table = p.0; opened = p.1.0; known = p.1.1 }) (λ _. refl)

module _ {S C : Type 0} (told : S → StoreTold) where
  -- the worker stays of its ledger, and its pass knows what the attempt made
  pub record Tries (before : WorkerHeld S C) (job : Job) (place : Place) (outcome : Outcome) (after : WorkerHeld S C)
      : Type 0 where
    pub table : after.table ≡ before.table
    pub opened : after.opened ≡ before.opened
    pub attempted : Attempted (opening_of told before.opened) before.known job place outcome after.known

-- ---- a denial

abbrev pub denied_as : Denial → Outcome
denied_as denial = Denied denial.statement denial.action denial.table denial.rule

-- it is told, unless memory runs out
abbrev pub TellsDenial : Denial → Outcome → Type 0
TellsDenial denial outcome = (outcome ≡ OutOfMemory) ⊎ (outcome ≡ denied_as denial)

-- ---- an attempt

-- the transaction has begun at the place with the pass, and nothing else happened
abbrev pub Starts : Opening → Known Entry → Place → Opened → Known Entry → Type 0
Starts o k place t now = Calls k now (λ front added. Opens o front place t added)

-- all statements of the job's transaction are done, nothing of it is denied, and it is to be committed with what the
-- pass knows
pub record IsDone (o : Opening) (job : Job) (place : Place) (t : Opened) (now : Known Entry) : Type 0 where
  pub may : MayCommit o now t
  pub runs : run t.begun t.base job.statements ≡ ran t.done
  pub goes_on : t.ended ≡ false
  pub commits : job.abort ≡ false
  pub admitted : job.denied ≡ None

-- this is how an attempt ends whose transaction began so
abbrev pub Ends : Opening → Job → Place → Opened → Known Entry → Outcome → Known Entry → Type 0
Ends o job place t begun outcome now =
    (k : Known Entry) → Starts o k place t begun → Attempted o k job place outcome now
