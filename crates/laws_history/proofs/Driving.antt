-- For crates that run jobs: attempts of a link are those of what its pass knows, and a worker takes one job more.
use Rattle.std.proofs.Common.{ℕ, zero, suc, List, [], ◌∷◌, ◌++◌, refl, sym, ap, subst}
use Rattle.ql_types.specs.declared.Place.{Place}
use Rattle.ledger_model.specs.declared.outcome.Outcome.{Outcome}
use Rattle.ledger_model.specs.declared.script.Job.{Job}
use Rattle.session_driver.specs.Retries.{Conflicted, Retried}
use Rattle.turn_lock.specs.declared.view.Known.{Known}
use Rattle.laws_machine.specs.Entries.{Entry, Opening}
use Rattle.laws_history.specs.Attempts.{Attempted}
use Rattle.laws_history.specs.Runs.{Served, Works}

module _ {L : Type 0} (Tried : L → Job → Place → Outcome → L → Type 0) (o : Opening) (knows : L → Known Entry)
    (tells : (l : L) (job : Job) (place : Place) (x : Outcome) (m : L) → Tried l job place x m
    → Attempted o (knows l) job place x (knows m)) (job : Job) (place : Place) where
  conflicted_through : (n : ℕ) (l m : L) → Conflicted Tried job place n l m
      → Conflicted (Attempted o) job place n (knows l) (knows m)
  conflicted_through zero l m e = ap knows e
  conflicted_through (suc n) l m h =
      (knows h.0, h.1, conflicted_through n l h.0 h.2, tells h.0 job place h.1 m h.3, h.4)

  pub retried_through : (x : Outcome) (l m : L) → Retried Tried job place l x m
      → Retried (Attempted o) job place (knows l) x (knows m)
  retried_through x l m r = record {
    count = r.count;
    between = knows r.between;
    earlier = conflicted_through r.count l r.between r.earlier;
    last = tells r.between job place x m r.last;
    at_most = r.at_most;
    fewer = r.fewer;
  }

pub works_more : (o : Opening) (ss : List Served) (s : Served) (start k now : Known Entry) → Works o ss start k
    → Retried (Attempted o) s.placed.job s.placed.place k s.outcome now → Works o (ss ++ s ∷ []) start now
works_more o [] s start k now e r = (
  now,
  subst (λ (x : Known Entry). Retried (Attempted o) s.placed.job s.placed.place x s.outcome now) (sym e) r,
  refl,
)
works_more o (x ∷ ss) s start k now h r = (h.0, h.1, works_more o ss s h.0 k now h.2 r)
