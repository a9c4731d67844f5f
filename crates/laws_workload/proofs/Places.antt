-- The jobs of a made workload by their places, and lists of the same items.
use Rattle.std.proofs.Common.{◌≡◌, ◌∙◌, ℕ, zero, suc, ◌+◌, ◌*◌, ◌<◌, List, [], ◌∷◌, ◌++◌, map, length, length-append, refl, sym, ap, ap₂, subst, inl, inr, arith}
use Rattle.std.specs.Prelude.{flat_map, IsPermutation}
use Rattle.std.specs.List.{AllByRecursion, range_with_len}
use Rattle.std.proofs.Math.Nat.{suc-mul}
use Rattle.std.proofs.lemmas.List.{map-append}
use Rattle.std.proofs.lemmas.List.Sorted.{IsPermutation-cons, IsPermutation-middle, IsPermutation-refl, IsPermutation-trans}
use Rattle.ion_values.specs.declared.value.Value.{Value}
use Rattle.ql_types.specs.declared.Place.{Place}
use Rattle.ledger_model.specs.declared.script.Job.{Job}
use Rattle.ledger_model.specs.Script.{Placed, all_placed_from, placed_from}
use Rattle.laws_validity.proofs.Lists.{all_append}
use Rattle.workload.specs.Laws.{made_documents, session_documents}
use Rattle.workload.specs.Made.{made_amount, made_document, made_job, made_session, made_sessions}
use Rattle.turn_lock.specs.History.{Stands}

-- ---- the jobs

abbrev pub amount_of : ℕ → Place → ℕ
amount_of seed place = made_amount seed place.session place.transaction

abbrev pub job_at : ℕ → Place → Job
job_at seed place = made_job place.session place.transaction (amount_of seed place)

abbrev pub document_at : ℕ → Place → Value
document_at seed place = made_document place.session place.transaction (amount_of seed place)

-- it is the job of its place in a session from 1 on
pub record IsOfSession (seed : ℕ) (p : Placed) : Type 0 where
  pub some : 0 < p.place.session
  pub job : p.job ≡ job_at seed p.place

module _ (seed : ℕ) where
  abbrev jobs_from : ℕ → ℕ → ℕ → List Placed
  jobs_from session at n = placed_from session at (map (λ t. made_job session t (made_amount seed session t)) (range_with_len at n))

  of_session : (session at n : ℕ) → 0 < session → AllByRecursion (IsOfSession seed) (jobs_from session at n)
  of_session session at zero some = tt
  of_session session at (suc n) some = (record { some = some; job = refl }, of_session session (at + 1) n some)

  documents_of : (session at n : ℕ) → map (λ (p : Placed). document_at seed p.place) (jobs_from session at n)
      ≡ map (λ t. made_document session t (made_amount seed session t)) (range_with_len at n)
  documents_of session at zero = refl
  documents_of session at (suc n) =
      ap (λ (vs : List Value). made_document session at (made_amount seed session at) ∷ vs) (documents_of session (at + 1) n)

  count_jobs : (session at n : ℕ) → length (jobs_from session at n) ≡ n
  count_jobs session at zero = refl
  count_jobs session at (suc n) = ap suc (count_jobs session (at + 1) n)

  module _ (transactions : ℕ) where
    abbrev sessions_from : ℕ → ℕ → List Placed
    sessions_from at n = all_placed_from at (map (λ s. made_session seed s transactions) (range_with_len at n))

    of_sessions : (at n : ℕ) → 0 < at → AllByRecursion (IsOfSession seed) (sessions_from at n)
    of_sessions at zero some = tt
    of_sessions at (suc n) some =
        all_append (IsOfSession seed) (jobs_from at 1 transactions) (sessions_from (at + 1) n) (of_session at 1 transactions some)
        (of_sessions (at + 1) n (omega arith))

    documents_in : (at n : ℕ) → map (λ (p : Placed). document_at seed p.place) (sessions_from at n)
        ≡ flat_map (session_documents seed transactions) (range_with_len at n)
    documents_in at zero = refl
    documents_in at (suc n) =
        map-append (λ (p : Placed). document_at seed p.place) (jobs_from at 1 transactions) (sessions_from (at + 1) n)
        ∙ ap₂ (λ (xs ys : List Value). xs ++ ys) (documents_of at 1 transactions) (documents_in (at + 1) n)

    count_sessions : (at n : ℕ) → length (sessions_from at n) ≡ n * transactions
    count_sessions at zero = let none : 0 ≡ 0 * transactions = omega arith in none
    count_sessions at (suc n) =
        let parts = length-append (jobs_from at 1 transactions) (sessions_from (at + 1) n) in
        let first = count_jobs at 1 transactions in
        let rest = count_sessions (at + 1) n in
        let more : suc n * transactions ≡ n * transactions + transactions = suc-mul n transactions in
        omega (arith, parts, first, rest, more)

-- the jobs of the sessions
abbrev pub session_jobs : ℕ → ℕ → ℕ → List Placed
session_jobs seed sessions transactions = all_placed_from 1 (made_sessions seed sessions transactions)

pub all_of_sessions : (seed sessions transactions : ℕ) → AllByRecursion (IsOfSession seed) (session_jobs seed sessions transactions)
all_of_sessions seed sessions transactions = of_sessions seed transactions 1 sessions (omega arith)

pub all_counted : (seed sessions transactions : ℕ) → length (session_jobs seed sessions transactions) ≡ sessions * transactions
all_counted seed sessions transactions = count_sessions seed transactions 1 sessions

pub all_documents : (seed sessions transactions : ℕ)
    → map (λ (p : Placed). document_at seed p.place) (session_jobs seed sessions transactions)
    ≡ made_documents seed sessions transactions
all_documents seed sessions transactions = documents_in seed transactions 1 sessions

-- ---- lists of the same items

-- no two of them are one
abbrev pub AllApart : {A : Type 0} → List A → Type 0
AllApart [] = Unit {0}
AllApart {A} (x ∷ xs) = ((y : A) → Stands y xs → x ≡ y → ⊥) × AllApart xs

module _ {A : Type 0} where
  -- a list with an item, taken apart there
  record Apart (x : A) (ys : List A) : Type 0 where
    front : List A
    back : List A
    is : ys ≡ front ++ x ∷ back

  apart_at : (x : A) (ys : List A) → Stands x ys → Apart x ys
  apart_at x [] h = absurd h
  apart_at x (y ∷ ys) (inl e) = record { front = []; back = ys; is = ap (λ z. z ∷ ys) (sym e) }
  apart_at x (y ∷ ys) (inr h) =
      let a = apart_at x ys h in record { front = y ∷ a.front; back = a.back; is = ap (λ zs. y ∷ zs) a.is }

  without : (x y : A) (front back : List A) → (x ≡ y → ⊥) → Stands y (front ++ x ∷ back) → Stands y (front ++ back)
  without x y [] back differ (inl e) = absurd (differ (sym e))
  without x y [] back differ (inr h) = h
  without x y (z ∷ front) back differ (inl e) = inl e
  without x y (z ∷ front) back differ (inr h) = inr (without x y front back differ h)

  pub same_items : (xs ys : List A) → AllApart xs → ((x : A) → Stands x xs → Stands x ys) → length xs ≡ length ys → IsPermutation ys xs
  same_items [] [] apart among long = IsPermutation-refl []
  same_items [] (y ∷ ys) apart among long = absurd (omega (arith, long))
  same_items (x ∷ xs) ys apart among long =
      let a = apart_at x ys (among x (inl refl)) in
      let size : length ys ≡ length a.front + length (x ∷ a.back) = ap length a.is ∙ length-append a.front (x ∷ a.back) in
      let rest : length (a.front ++ a.back) ≡ length a.front + length a.back = length-append a.front a.back in
      let others = same_items xs (a.front ++ a.back) apart.1
      (λ y h. without x y a.front a.back (apart.0 y h) (subst (λ (l : List A). Stands y l) a.is (among y (inr h))))
      (omega (arith, long, size, rest)) in
      subst (λ (l : List A). IsPermutation l (x ∷ xs)) (sym a.is)
      (IsPermutation-trans _ _ _ (IsPermutation-middle a.front x a.back) (IsPermutation-cons x _ _ others))
