-- What a run by all workers leaves, once its ledger is closed.
use Rattle.std.proofs.Common.{◌≡◌, ℕ, ℤ, ◌<◌, List, [], ◌∷◌, map, Option, subst, sym}
use Rattle.std.specs.List.{AllByRecursion}
use mathlib.Core.List.{IsPrefix}
use Rattle.outside.specs.Told.{StoreTold}
use Rattle.ledger_model.specs.declared.outcome.PlacedOutcome.{PlacedOutcome}
use Rattle.ledger_model.specs.Script.{Placed}
use Rattle.turn_lock.specs.declared.view.Known.{Known}
use Rattle.turn_lock.specs.History.{AreWhole, OwnedOnce}
use Rattle.turn_lock.specs.Rule.{Each}
use Rattle.laws_machine.specs.Entries.{Entry}
use Rattle.laws_history.specs.Passes.{ArePasses, pass_in}
use Rattle.laws_history.proofs.Passes.{passes_work}
use Rattle.ledger_core.specs.Tails.{TailHeld}
use Rattle.ledger_shared.specs.Behind.{IsRightFor, Keeps, opening_of}
use Rattle.ledger_shared.specs.Desks.{HaveWorked}
use Rattle.ledger_shared.specs.Ran.{AllHaveRun}
use Rattle.ledger_shared.proofs.Whole.{none_made}

pub each_mapped : {A B : Type 0} (f : A → B) (P : B → Type 0) (xs : List A) → Each (λ x. P (f x)) xs → Each P (map f xs)
each_mapped f P [] h = tt
each_mapped f P (x ∷ xs) h = (h.0, each_mapped f P xs h.1)

all_of : {A : Type 0} (P : A → Type 0) (xs : List A) → Each P xs → AllByRecursion P xs
all_of P [] h = tt
all_of P (x ∷ xs) h = (h.0, all_of P xs h.1)

module _ {S C : Type 0} (told : S → StoreTold) (answers : C → Option (List ℤ)) (always : C → Option ℤ) (opened tail : TailHeld S C)
    (entries : List Entry) (knows : List (Known Entry)) (keeps : Keeps told answers always opened tail entries)
    (once : OwnedOnce entries knows) where
  module _ (workers : ℕ) (jobs : List Placed) (outcomes : List PlacedOutcome) (some : 0 < workers) (right : IsRightFor told opened entries)
      (seen : Each (λ (k : Known Entry). IsPrefix k.seen entries) knows)
      (worked : HaveWorked (opening_of told opened) workers jobs knows outcomes) where
    passes : ArePasses (opening_of told opened) workers worked.served entries knows
    passes = record {
      as_many = worked.as_many;
      worked = worked.worked;
      seen = all_of (λ (k : Known Entry). IsPrefix k.seen entries) knows seen;
      owned = once;
    }

    pub all_have_run : AllHaveRun told answers always workers jobs opened tail outcomes
    all_have_run = record {
      entries = entries;
      keeps = keeps;
      right = right;
      served = worked.served;
      jobs_are = worked.jobs_are;
      outcomes_are = worked.outcomes_are;
      pass_of = pass_in knows;
      workers_are = passes_work (opening_of told opened) workers worked.served entries knows some passes;
    }

  -- where no pass owns an entry, none was made
  pub none_has_run : Each (λ (k : Known Entry). k.own ≡ []) knows → Keeps told answers always opened tail []
  none_has_run idle = subst (λ es. Keeps told answers always opened tail es) (none_made entries knows idle once) keeps

-- the ledger of the tail is closed with all its passes
module _ {S C P : Type 0} (told : S → StoreTold) (answers : C → Option (List ℤ)) (always : C → Option ℤ) (opened first tail : TailHeld S C)
    (is : opened ≡ first) (entries : List Entry) (name : P → Known Entry) (passes : List P) (keeps : Keeps told answers always opened tail entries)
    (whole : AreWhole (map name passes)) (once : AreWhole (map name passes) → OwnedOnce entries (map name passes)) where
  pub closed_all : (workers : ℕ) (jobs : List Placed) (outcomes all : List PlacedOutcome) → 0 < workers → IsRightFor told opened entries
      → Each (λ p. IsPrefix (name p).seen entries) passes → HaveWorked (opening_of told opened) workers jobs (map name passes) outcomes
      → all ≡ outcomes → AllHaveRun told answers always workers jobs first tail all
  closed_all workers jobs outcomes all some right seen worked same =
      subst (λ os. AllHaveRun told answers always workers jobs first tail os) (sym same)
      (subst (λ t. AllHaveRun told answers always workers jobs t tail outcomes) is
      (all_have_run told answers always opened tail entries (map name passes) keeps (once whole) workers jobs outcomes some right
      (each_mapped name (λ (k : Known Entry). IsPrefix k.seen entries) passes seen) worked))

  pub closed_none : Each (λ (k : Known Entry). k.own ≡ []) (map name passes) → Keeps told answers always first tail []
  closed_none idle =
      subst (λ t. Keeps told answers always t tail []) is
      (none_has_run told answers always opened tail entries (map name passes) keeps (once whole) idle)
