-- A pass keeps its name, and how many passes were split from it, through all attempts that are made with it.
use Rattle.std.proofs.Common.{◌≡◌, ◌∙◌, ℕ, zero, suc, List, [], ◌∷◌, sym, ap, inl, inr}
use Rattle.ql_types.specs.declared.Place.{Place}
use Rattle.ql_types.specs.declared.TxId.{TxId}
use Rattle.ledger_model.specs.declared.outcome.Outcome.{Outcome}
use Rattle.ledger_model.specs.declared.outcome.Outcome.TheVariants.{Aborted, Committed, Conflict, Denied, DigestDiffers, IdsSpent, JournalFull, OutOfMemory, Refused, StoreFault}
use Rattle.ledger_model.specs.declared.script.Job.{Job}
use Rattle.session_driver.specs.Retries.{Conflicted, Retried}
use Rattle.turn_lock.specs.declared.view.Known.{Known}
use Rattle.laws_machine.specs.Entries.{Entry, Opening}
use Rattle.laws_history.specs.Attempts.{Adds, Attempted, Begins, Sees, Wants, WantsBehind}
use Rattle.laws_history.specs.Runs.{Served, Works}

pub record IsOfOne (k now : Known Entry) : Type 0 where
  pub name : now.name ≡ k.name
  pub splits : now.splits ≡ k.splits

same_one : (k now : Known Entry) → k ≡ now → IsOfOne k now
same_one k now e = record { name = ap (λ (x : Known Entry). x.name) (sym e); splits = ap (λ (x : Known Entry). x.splits) (sym e) }

one_on : (k between now : Known Entry) → IsOfOne k between → IsOfOne between now → IsOfOne k now
one_on k between now a b = record { name = b.name ∙ a.name; splits = b.splits ∙ a.splits }

seen_one : (k now : Known Entry) → Sees k now → IsOfOne k now
seen_one k now s = record { name = ap (λ (x : Known Entry). x.name) s.same; splits = ap (λ (x : Known Entry). x.splits) s.same }

added_one : (k : Known Entry) (e : Entry) (now : Known Entry) → Adds k e now → IsOfOne k now
added_one k e now a = record { name = ap (λ (x : Known Entry). x.name) a.added; splits = ap (λ (x : Known Entry). x.splits) a.added }

module _ (o : Opening) (job : Job) (place : Place) (k now : Known Entry) where
  begun_one : (tx : TxId) (b : Begins o place k tx) → IsOfOne b.now now → IsOfOne k now
  begun_one tx b h = one_on k b.now now (added_one k _ b.now b.adds) h

  behind_one : (tx : TxId) (b : Begins o place k tx) → WantsBehind o job place k tx b now → IsOfOne b.now now
  behind_one tx b (inl s) = seen_one b.now now s
  behind_one tx b (inr a) = added_one b.now _ now a.1

  wanted_one : Wants o job place k now → IsOfOne k now
  wanted_one (inl s) = seen_one k now s
  wanted_one (inr w) = begun_one w.0 w.1 (behind_one w.0 w.1 w.2)

  attempted_one : (x : Outcome) → Attempted o k job place x now → IsOfOne k now
  attempted_one (Committed tx block) h = begun_one tx h.ready.begun (added_one h.ready.begun.now _ now h.adds)
  attempted_one (Conflict tx since named) h = begun_one tx h.ready.begun (seen_one h.ready.begun.now now h.sees)
  attempted_one (Refused tx since statement cause) h = begun_one tx h.begun (seen_one h.begun.now now h.sees)
  attempted_one (DigestDiffers tx since mine given) h = begun_one tx h.ready.begun (seen_one h.ready.begun.now now h.sees)
  attempted_one (StoreFault tx count) h = begun_one tx h.ready.begun (added_one h.ready.begun.now _ now h.adds)
  attempted_one (JournalFull tx blocks) h = begun_one tx h.ready.begun (seen_one h.ready.begun.now now h.sees)
  attempted_one (IdsSpent last) h = seen_one k now h.sees
  attempted_one (Aborted tx since) h = begun_one tx h.begun (seen_one h.begun.now now h.sees)
  attempted_one (Denied statement action table rule) h = seen_one k now h.sees
  attempted_one OutOfMemory h = wanted_one h

module _ (o : Opening) where
  conflicted_one : (job : Job) (place : Place) (n : ℕ) (k now : Known Entry) → Conflicted (Attempted o) job place n k now → IsOfOne k now
  conflicted_one job place zero k now h = same_one k now h
  conflicted_one job place (suc n) k now h =
      one_on k h.0 now (conflicted_one job place n k h.0 h.2) (attempted_one o job place h.0 now h.1 h.3)

  retried_one : (job : Job) (place : Place) (k : Known Entry) (x : Outcome) (now : Known Entry) → Retried (Attempted o) job place k x now
      → IsOfOne k now
  retried_one job place k x now r =
      one_on k r.between now (conflicted_one job place r.count k r.between r.earlier) (attempted_one o job place r.between now x r.last)

  pub works_one : (ss : List Served) (k now : Known Entry) → Works o ss k now → IsOfOne k now
  works_one [] k now h = same_one k now h
  works_one (s ∷ ss) k now h =
      one_on k h.0 now (retried_one s.placed.job s.placed.place k s.outcome h.0 h.1) (works_one ss h.0 now h.2)
