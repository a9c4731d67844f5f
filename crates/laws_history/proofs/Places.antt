-- The order of the jobs of a script.
use Rattle.std.proofs.Common.{◌≡◌, ℕ, ◌+◌, ◌<◌, ◌≤◌, List, [], ◌∷◌, ◌++◌, ap, arith}
use Rattle.std.specs.List.{AllByRecursion}
use Rattle.ql_types.specs.declared.Place.{Place}
use Rattle.ledger_model.specs.declared.script.Job.{Job}
use Rattle.ledger_model.specs.Script.{Placed, placed_from, all_placed_from, all_placed}
use Rattle.laws_history.specs.Records.{IsBehind, InOrder}
use Rattle.laws_validity.proofs.Lists.{all_append, all_like}

-- ---- the jobs of a script are in order

-- the job is of this session and has at least this number in it
abbrev IsFrom : ℕ → ℕ → Placed → Type 0
IsFrom session transaction p = (p.place.session ≡ session) × (transaction ≤ p.place.transaction)

-- the job is of this session or of a later one
abbrev IsOfLater : ℕ → Placed → Type 0
IsOfLater session p = session ≤ p.place.session

all_from : (session transaction least : ℕ) (jobs : List Job) → least ≤ transaction
    → AllByRecursion (IsFrom session least) (placed_from session transaction jobs)
all_from session transaction least [] h = tt
all_from session transaction least (j ∷ js) h =
    ((refl_of session, h), all_from session (transaction + 1) least js (omega arith))
  where
    refl_of : (n : ℕ) → n ≡ n
    refl_of n = omega arith

all_later : (session least : ℕ) (script : List (List Job)) → least ≤ session
    → AllByRecursion (IsOfLater least) (all_placed_from session script)
all_later session least [] h = tt
all_later session least (jobs ∷ more) h =
    all_append (IsOfLater least) (placed_from session 1 jobs) (all_placed_from (session + 1) more)
    (all_like (IsFrom session 1) (IsOfLater least) (λ p of. omega (arith, of.0)) (placed_from session 1 jobs)
    (all_from session 1 1 jobs (omega arith)))
    (all_later (session + 1) least more (omega arith))

behind_same : (session transaction : ℕ) (p : Placed) → IsFrom session (transaction + 1) p
    → IsBehind (record { session = session; transaction = transaction }) p
behind_same session transaction p of same = omega (arith, of.1)

behind_later : (place : Place) (p : Placed) → IsOfLater (place.session + 1) p → IsBehind place p
behind_later place p later same = absurd (omega arith)

session-InOrder : (session transaction : ℕ) (jobs : List Job) → InOrder (placed_from session transaction jobs)
session-InOrder session transaction [] = tt
session-InOrder session transaction (j ∷ js) = (
  all_like (IsFrom session (transaction + 1)) (IsBehind (record { session = session; transaction = transaction }))
      (behind_same session transaction) (placed_from session (transaction + 1) js)
      (all_from session (transaction + 1) (transaction + 1) js (omega arith)),
  session-InOrder session (transaction + 1) js,
)

InOrder-append : (ps qs : List Placed) → InOrder ps → InOrder qs
    → AllByRecursion (λ p. AllByRecursion (IsBehind p.place) qs) ps → InOrder (ps ++ qs)
InOrder-append [] qs first second behind = second
InOrder-append (p ∷ ps) qs first second behind =
    (all_append (IsBehind p.place) ps qs first.0 behind.0, InOrder-append ps qs first.1 second behind.1)

sessions-InOrder : (session : ℕ) (script : List (List Job)) → InOrder (all_placed_from session script)
sessions-InOrder session [] = tt
sessions-InOrder session (jobs ∷ more) =
    let later = all_placed_from (session + 1) more in
    InOrder-append (placed_from session 1 jobs) later (session-InOrder session 1 jobs)
    (sessions-InOrder (session + 1) more)
    (all_like (IsFrom session 1) (λ p. AllByRecursion (IsBehind p.place) later)
    (λ p of. all_like (IsOfLater (session + 1)) (IsBehind p.place)
    (λ q after. behind_later p.place q (omega (arith, of.0, after))) later
    (all_later (session + 1) (session + 1) more (omega arith)))
    (placed_from session 1 jobs) (all_from session 1 1 jobs (omega arith)))

pub InOrder-all_placed : (script : List (List Job)) → InOrder (all_placed script)
InOrder-all_placed script = sessions-InOrder 1 script

-- ---- places

pub behind_differs : (place : Place) (p : Placed) → IsBehind place p → place ≡ p.place → ⊥
behind_differs place p behind same =
    let less : place.transaction < p.place.transaction = behind (ap (λ (x : Place). x.session) same) in
    let e : place.transaction ≡ p.place.transaction = ap (λ (x : Place). x.transaction) same in
    omega arith
