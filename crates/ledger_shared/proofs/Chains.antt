-- A chain of a worker's attempts is one of what its pass knows, and the worker stays of its ledger.
use Rattle.std.proofs.Common.{◌≡◌, ◌∙◌, ℕ, zero, suc, ap, subst, sym}
use Rattle.ql_types.specs.declared.Place.{Place}
use Rattle.ledger_model.specs.declared.outcome.Outcome.{Outcome}
use Rattle.ledger_model.specs.declared.script.Job.{Job}
use Rattle.outside.specs.Told.{StoreTold}
use Rattle.session_driver.specs.Retries.{Conflicted, Retried}
use Rattle.laws_history.specs.Attempts.{Attempted}
use Rattle.ledger_core.specs.Tails.{TailHeld}
use Rattle.ledger_shared.specs.Behind.{opening_of}
use Rattle.ledger_shared.specs.Workers.{Tries, WorkerHeld}

module _ {S C : Type 0} (told : S → StoreTold) (job : Job) (place : Place) where
  -- the second worker is of the first one's ledger
  pub record IsOfOne (a b : WorkerHeld S C) : Type 0 where
    pub table : b.table ≡ a.table
    pub opened : b.opened ≡ a.opened

  pub record Chains (n : ℕ) (a b : WorkerHeld S C) : Type 0 where
    pub one : IsOfOne a b
    pub conflicted : Conflicted (Attempted (opening_of told a.opened)) job place n a.known b.known

  -- an attempt by a worker of this ledger
  attempted_by : (opened : TailHeld S C) (a b : WorkerHeld S C) (x : Outcome) → a.opened ≡ opened → Tries told a job place x b
      → Attempted (opening_of told opened) a.known job place x b.known
  attempted_by opened a b x is t =
      subst (λ o. Attempted (opening_of told o) a.known job place x b.known) is t.attempted

  chains : (n : ℕ) (a b : WorkerHeld S C) → Conflicted (Tries told) job place n a b → Chains n a b
  chains zero a b h = record {
    one = record { table = ap (λ (w : WorkerHeld S C). w.table) (sym h); opened = ap (λ (w : WorkerHeld S C). w.opened) (sym h) };
    conflicted = ap (λ (w : WorkerHeld S C). w.known) h;
  }
  chains (suc n) a b h =
      let first = chains n a h.0 h.2 in
      record {
        one = record { table = h.3.table ∙ first.one.table; opened = h.3.opened ∙ first.one.opened };
        conflicted = (h.0.known, h.1, first.conflicted, attempted_by a.opened h.0 b h.1 first.one.opened h.3, h.4);
      }

  module _ (a b : WorkerHeld S C) (x : Outcome) (r : Retried (Tries told) job place a x b) where
    pub stays : IsOfOne a b
    stays =
        let c = chains r.count a r.between r.earlier in
        record { table = r.last.table ∙ c.one.table; opened = r.last.opened ∙ c.one.opened }

    pub retried_knows : Retried (Attempted (opening_of told a.opened)) job place a.known x b.known
    retried_knows =
        let c = chains r.count a r.between r.earlier in
        record {
          count = r.count;
          between = r.between.known;
          earlier = c.conflicted;
          last = attempted_by a.opened r.between b x c.one.opened r.last;
          at_most = r.at_most;
          fewer = r.fewer;
        }
