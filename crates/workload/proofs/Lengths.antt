-- How long the lists of a made workload are, for those who run it.
use Rattle.std.proofs.Common.{◌≡◌, ℕ, List, [], ◌∷◌, map, length}
use Rattle.std.specs.List.{range_with_len, AllByRecursion}
use Rattle.std.proofs.lemmas.List.FromFn.{length-map-range_with_len}
use Rattle.ledger_model.specs.declared.script.Job.{Job}
use Rattle.workload.specs.Made.{made_amount, made_job, made_session, made_sessions}

pub length-made_session : (seed session transactions : ℕ) → length (made_session seed session transactions) ≡ transactions
length-made_session seed session transactions =
    length-map-range_with_len (λ t. made_job session t (made_amount seed session t)) 1 transactions

pub length-made_sessions : (seed sessions transactions : ℕ) → length (made_sessions seed sessions transactions) ≡ sessions
length-made_sessions seed sessions transactions =
    length-map-range_with_len (λ s. made_session seed s transactions) 1 sessions

each : {X Y : Type 0} (P : Y → Type 0) (f : X → Y) → ((x : X) → P (f x)) → (xs : List X) → AllByRecursion P (map f xs)
each P f holds [] = tt
each P f holds (x ∷ xs) = (holds x, each P f holds xs)

-- what is so of each session alone is so of all
pub each-made_session : (P : List Job → Type 0) (seed sessions transactions : ℕ)
    → ((session : ℕ) → P (made_session seed session transactions)) → AllByRecursion P (made_sessions seed sessions transactions)
each-made_session P seed sessions transactions holds =
    each P (λ s. made_session seed s transactions) holds (range_with_len 1 sessions)
