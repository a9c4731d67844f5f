-- What a job leaves that one worker has run alone, with the only pass of its ledger.
use Rattle.std.proofs.Common.{◌≡◌, ◌∙◌, ℕ, zero, suc, ℤ, ◌+◌, ◌%◌, ◌<◌, ◌≤◌, List, [], ◌∷◌, ◌++◌, map, slice_get, get_or, length, Option, Some, refl, sym, ap, subst, inl, inr, arith, eq-eqb, mod-lt}
use mathlib.Core.List.{IsPrefix}
use Rattle.ledger_model.specs.declared.outcome.Outcome.{Outcome}
use Rattle.ledger_model.specs.Script.{Placed}
use Rattle.outside.specs.Told.{StoreTold}
use Rattle.atomic_table.specs.Seated.{TableId}
use Rattle.session_driver.specs.Retries.{Retried}
use Rattle.turn_lock.specs.declared.view.Known.{Known}
use Rattle.turn_lock.specs.History.{AreWhole, IsNamed, OwnedOnce, Stands, newborn}
use Rattle.turn_lock.specs.Rule.{Each}
use Rattle.laws_machine.specs.Entries.{Entry, Opening}
use Rattle.laws_history.specs.Attempts.{Attempted}
use Rattle.laws_history.specs.Passes.{pass_in}
use Rattle.laws_history.specs.Runs.{HasWorked, Served, Works}
use Rattle.laws_history.proofs.Passes.{passes_work}
use Rattle.ledger_core.specs.Tails.{TailHeld}
use Rattle.ledger_shared.specs.Behind.{IsRightFor, Keeps, opening_of}
use Rattle.ledger_shared.specs.Ran.{AllHaveRun}
use Rattle.ledger_shared.specs.Workers.{Tries, WorkerHeld}
use Rattle.ledger_shared.proofs.Chains.{retried_knows}
use Rattle.ledger_shared.proofs.Named.{IsOfOne, works_one}
use Rattle.laws_workload.proofs.Joining.{dealt_takes}

mod_one : (n : ℕ) → n % 1 ≡ 0
mod_one n = let one : 0 < 1 = omega arith in let less : n % 1 < 1 = mod-lt n one in omega (arith, less)

module _ {S C : Type 0} (told : S → StoreTold) (answers : C → Option (List ℤ)) (always : C → Option ℤ) (opened tail : TailHeld S C)
    (p : Placed) (x : Outcome) (entries : List Entry) (k : Known Entry)
    (ran : Retried (Attempted (opening_of told opened)) p.job p.place newborn x k)
    (keeps : Keeps told answers always opened tail entries) (right : IsRightFor told opened entries)
    (seen : IsPrefix k.seen entries) (once : AreWhole (k ∷ []) → OwnedOnce entries (k ∷ [])) where
  abbrev o : Opening
  o = opening_of told opened

  abbrev served : Served
  served = record { placed = p; outcome = x }

  works : Works o (served ∷ []) newborn k
  works = (k, ran, refl)

  -- no pass was split from it
  one : IsOfOne newborn k
  one = works_one o (served ∷ []) newborn k works

  whole : AreWhole (k ∷ [])
  whole = ((k, inl refl, one.name), λ other i among low high. by other i among low high)
    where
      by : (other : Known Entry) (i : ℕ) → Stands other (k ∷ []) → 1 ≤ i → i ≤ other.splits → IsNamed (k ∷ []) (other.name ++ i ∷ [])
      by other i (inl same) low high =
          let none : other.splits ≡ 0 = ap (λ (y : Known Entry). y.splits) same ∙ one.splits in
          absurd (omega (arith, low, high, none))
      by other i (inr bad) low high = absurd bad

  worked : (i : ℕ) (other : Known Entry) → slice_get (k ∷ []) i ≡ Some other → HasWorked o 1 ((i + 1) % 1) (served ∷ []) other
  worked zero other there =
      let is : k ≡ other = cc there in
      subst (λ (y : Known Entry). HasWorked o 1 0 (served ∷ []) y) is (record {
        start = newborn;
        owns_none = refl;
        works = subst (λ (ss : List Served). Works o ss newborn k)
            (sym (dealt_takes 1 0 served [] (eq-eqb (p.place.session % 1) 0 (mod_one p.place.session)))) works;
      })
  worked (suc i) other there = let bad : ⊥ = cc there in absurd bad

  pub alone_ran : AllHaveRun told answers always 1 (p ∷ []) opened tail (record { place = p.place; outcome = x } ∷ [])
  alone_ran = record {
    entries = entries;
    keeps = keeps;
    right = right;
    served = served ∷ [];
    jobs_are = refl;
    outcomes_are = refl;
    pass_of = pass_in (k ∷ []);
    workers_are = passes_work o 1 (served ∷ []) entries (k ∷ []) (omega arith) (record {
      as_many = refl;
      worked = worked;
      seen = (seen, tt);
      owned = once whole;
    });
  }

-- ---- the ledger is closed with its only pass

module _ {S C P : Type 0} (told : S → StoreTold) (answers : C → Option (List ℤ)) (always : C → Option ℤ) (opened first tail : TailHeld S C)
    (is : opened ≡ first) (entries : List Entry) (name : P → Known Entry) (passes : List P) (pass : P) (only : passes ≡ pass ∷ [])
    (keeps : Keeps told answers always opened tail entries) (right : IsRightFor told opened entries)
    (seen : Each (λ q. IsPrefix (name q).seen entries) passes)
    (once : AreWhole (map name passes) → OwnedOnce entries (map name passes)) where
  pub closed_alone : (p : Placed) (x : Outcome) (a b : WorkerHeld S C) → a.opened ≡ opened → a.known ≡ newborn → name pass ≡ b.known
      → Retried (Tries told) p.job p.place a x b → AllHaveRun told answers always 1 (p ∷ []) first tail (record { place = p.place; outcome = x } ∷ [])
  closed_alone p x a b of born knows ran =
      let knew : Retried (Attempted (opening_of told a.opened)) p.job p.place a.known x b.known = retried_knows told p.job p.place a b x ran in
      let there : Retried (Attempted (opening_of told opened)) p.job p.place newborn x (name pass) =
      subst (λ t. Retried (Attempted (opening_of told t)) p.job p.place newborn x (name pass)) of
      (subst (λ k. Retried (Attempted (opening_of told a.opened)) p.job p.place k x (name pass)) born
      (subst (λ k. Retried (Attempted (opening_of told a.opened)) p.job p.place a.known x k) (sym knows) knew)) in
      let all : Each (λ q. IsPrefix (name q).seen entries) (pass ∷ []) = subst (λ qs. Each (λ q. IsPrefix (name q).seen entries) qs) only seen in
      subst (λ t. AllHaveRun told answers always 1 (p ∷ []) t tail (record { place = p.place; outcome = x } ∷ [])) is
      (alone_ran told answers always opened tail p x entries (name pass) there keeps right all.0
      (subst (λ (qs : List P). AreWhole (map name qs) → OwnedOnce entries (map name qs)) only once))

-- ---- its passes

pub only_of : {A : Type 0} (now before first : List A) (x : A) → now ≡ before ++ x ∷ [] → before ≡ first → first ≡ [] → now ≡ x ∷ []
only_of {A = A} now before first x is same none = is ∙ ap (λ (xs : List A). xs ++ x ∷ []) (same ∙ none)

-- what is so of the pass and of the worker's ledger as it is now is so of each pass and of the ledger that it was made of
module _ {S C A : Type 0} (P : TableId → TailHeld S C → A → Type 0) (a b : WorkerHeld S C) (table : TableId) (opened : TailHeld S C)
    (same_table : b.table ≡ a.table) (same_opened : b.opened ≡ a.opened) (of_table : a.table ≡ table) (of_opened : a.opened ≡ opened) (x : A)
    (h : P b.table b.opened x) where
  still : P table opened x
  still = subst (λ o. P table o x) (same_opened ∙ of_opened) (subst (λ t. P t b.opened x) (same_table ∙ of_table) h)

  in_one : (i : ℕ) (d : A) → i < length (x ∷ []) → P table opened (get_or (x ∷ []) i d)
  in_one zero d low = still
  in_one (suc i) d low = absurd (omega (arith, low))

  pub in_only : (xs : List A) → xs ≡ x ∷ [] → (i : ℕ) (d : A) → i < length xs → P table opened (get_or xs i d)
  in_only xs only =
      subst (λ (ys : List A). (i : ℕ) (d : A) → i < length ys → P table opened (get_or ys i d)) (sym only) in_one
