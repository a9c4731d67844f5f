-- What a worker does with a job's transaction that has begun with its pass.
use Rattle.std.proofs.Common.{◌≡◌, ◌∙◌, ℕ, false, true, List, Some, None, refl, sym, ap, subst, inl, inr, Err}
use Rattle.ql_types.specs.Ids.{raw_id}
use Rattle.ql_types.specs.declared.Place.{Place}
use Rattle.ql_types.specs.declared.TxId.{TxId}
use Rattle.ledger_model.specs.declared.outcome.Outcome.{Outcome}
use Rattle.ledger_model.specs.declared.outcome.Outcome.TheVariants.{Aborted, OutOfMemory, Refused}
use Rattle.ledger_model.specs.declared.outcome.Refusal.{Refusal}
use Rattle.ledger_model.specs.declared.script.Denial.{Denial}
use Rattle.ledger_model.specs.declared.script.Job.{Job}
use Rattle.ledger_model.specs.declared.script.Request.{Request}
use Rattle.ledger_model.specs.Run.{run, start}
use Rattle.outside.specs.Told.{StoreTold}
use Rattle.turn_lock.specs.declared.view.Known.{Known}
use Rattle.laws_machine.specs.Entries.{Entry, Opening}
use Rattle.laws_history.specs.Attempts.{GivesUp, Refuses, Spends, Wants}
use Rattle.laws_history.specs.Seen.{reach}
use Rattle.txn_core.specs.declared.runs.Ran as end
use Rattle.txn_core.specs.declared.runs.Ran.TheVariants as variant
use Rattle.txn_core.specs.Opened.{Opened}
use Rattle.txn_core.specs.Runs.{IsRunOf, ran_of}
use Rattle.ledger_core.specs.Committing.{tx_of}
use Rattle.ledger_core.specs.declared.begin.BeginFault.TheVariants as fault
use Rattle.ledger_shared.specs.Calls.{Begins}
use Rattle.ledger_shared.specs.Known.{Calls, MayCommit}
use Rattle.ledger_shared.specs.Workers.{Ends, IsDone, Starts, TellsDenial, Tries, WorkerHeld}
use Rattle.ledger_shared.proofs.Attempts.{done_here, given_up, refused_here, seen_is, sees, sees_same, wanted_here}

tx_is : (t : Opened) (tx : TxId) → tx.raw ≡ raw_id t.begun.mask t.begun.number 0 → tx_of t ≡ tx
tx_is t tx id i = record { raw = (sym id) i }

-- ---- no transaction has begun

pub spends : (o : Opening) (job : Job) (place : Place) (k now : Known Entry) (last : ℕ) → job.denied ≡ None
    → Calls k now (λ front added. Begins o front place (Err (fault.IdsSpent last)) added) → Spends o job place k last now
spends o job place k now last admitted c = record {
  sees = sees k now _ c c.does.2;
  greatest_last = c.does.1;
  last_is = ap (λ es. (reach o es).last) (seen_is k now _ c c.does.2) ∙ c.does.0;
  admitted = admitted;
}

pub wants : (o : Opening) (job : Job) (place : Place) (k now : Known Entry)
    → Calls k now (λ front added. Begins o front place (Err fault.OutOfMemory) added) → Wants o job place k now
wants o job place k now c = inl (sees k now _ c c.does)

-- ---- none is to begin

-- what is denied of the job is told, or memory runs out, and the pass knows what it did
pub is_denied : {S C : Type 0} (told : S → StoreTold) (job : Job) (place : Place) (w : WorkerHeld S C) (denial : Denial) (x : Outcome)
    → job.denied ≡ Some denial → TellsDenial denial x → Tries told w job place x w
is_denied told job place w denial x is (inl none) =
    subst (λ (y : Outcome). Tries told w job place y w) (sym none)
    (record { table = refl; opened = refl; attempted = inl (sees_same w.known) })
is_denied told job place w denial x is (inr so) =
    subst (λ (y : Outcome). Tries told w job place y w) (sym so)
    (record { table = refl; opened = refl; attempted = record { denied = is; sees = sees_same w.known } })

-- ---- one has

module _ (o : Opening) (k : Known Entry) (place : Place) (t : Opened) (now : Known Entry) (c : Starts o k place t now) where
  pub is_fresh : t.done ≡ start
  is_fresh = ap (λ (x : Opened). x.done) c.does.txn_is

  pub goes : t.ended ≡ false
  goes = ap (λ (x : Opened). x.ended) c.does.txn_is

  pub is_at : t.place ≡ place
  is_at = ap (λ (x : Opened). x.place) c.does.txn_is

-- ---- its statements have run

module _ (o : Opening) (job : Job) (place : Place) (x : Opened) (r : end.Ran) (asked : List Request) (asked_is : asked ≡ job.statements)
    (runs : ran_of r ≡ run x.begun x.base asked) (of : IsRunOf x r) where
  runs_so : (s : end.Ran) → r ≡ s → ran_of s ≡ run x.begun x.base job.statements
  runs_so s is =
      subst (λ (y : end.Ran). ran_of y ≡ run x.begun x.base job.statements) is (runs ∙ ap (run x.begun x.base) asked_is)

  pub is_done : (k : Known Entry) (d : Opened) → r ≡ variant.Done d → MayCommit o k x → x.ended ≡ false → job.abort ≡ false
      → job.denied ≡ None → IsDone o job place d k
  is_done k d is may goes_on commits admitted =
      done_here o job place x d k may (subst (λ (y : end.Ran). IsRunOf x y) is of) (runs_so (variant.Done d) is) goes_on commits
      admitted

  -- the transaction is the same one
  pub same_txn : (d : Opened) → r ≡ variant.Done d
      → (x.begun ≡ d.begun) × (x.base ≡ d.base) × (x.since ≡ d.since) × (x.place ≡ d.place)
  same_txn d is =
      let same : d ≡ record x { done = d.done } = subst (λ (y : end.Ran). IsRunOf x y) is of in (
        sym (ap (λ (y : Opened). y.begun) same),
        sym (ap (λ (y : Opened). y.base) same),
        sym (ap (λ (y : Opened). y.since) same),
        sym (ap (λ (y : Opened). y.place) same),
      )

  pub is_given_up : (now : Known Entry) (d : Opened) (tx : TxId) (since : ℕ) → r ≡ variant.Done d
      → tx.raw ≡ raw_id x.begun.mask x.begun.number 0 → since ≡ x.since → job.abort ≡ true
      → job.denied ≡ None → Ends o job place x now (Aborted tx since) now
  is_given_up now d tx since is id stood aborts admitted k c =
      subst (λ y. GivesUp o job place k y since now) (tx_is x tx id)
      (given_up o place k x now c job since d.done stood (runs_so (variant.Done d) is) aborts admitted)

  pub is_refused : (now : Known Entry) (tx : TxId) (since statement : ℕ) (cause : Refusal) → r ≡ variant.Refused statement cause
      → tx.raw ≡ raw_id x.begun.mask x.begun.number 0 → since ≡ x.since
      → job.denied ≡ None → Ends o job place x now (Refused tx since statement cause) now
  is_refused now tx since statement cause is id stood admitted k c =
      subst (λ y. Refuses o job place k y since statement cause now) (tx_is x tx id)
      (refused_here o place k x now c job since statement cause stood (runs_so (variant.Refused statement cause) is) admitted)

pub is_wanted : (o : Opening) (job : Job) (place : Place) (x : Opened) (now : Known Entry) → Ends o job place x now OutOfMemory now
is_wanted o job place x now k c = wanted_here o place k x now c job
