-- What a transaction has said is what it was asked, in order.
use Rattle.std.proofs.Common.{◌≡◌, ℕ, ◌+◌, List, [], ◌∷◌, ◌++◌, refl, sym, subst, ◌∙◌, append_assoc, append-nil, Result, Ok, Err}
use Rattle.std.proofs.lemmas.List.{map-append}
use Rattle.ledger_model.specs.declared.script.Request.{Request}
use Rattle.ledger_model.specs.declared.outcome.Refusal.{Refusal}
use Rattle.ledger_model.specs.State.{State}
use Rattle.ledger_model.specs.Run.{Begun, Progress, Effect, recorded, step, Ran, ran, refused, then_run, run_from, run, start}
use Rattle.ledger_model.specs.Legal.{asked_in}

-- what was asked, and this request behind it
abbrev Adds : Progress → Request → Result Progress Refusal → Type 0
Adds p r (Ok q) = asked_in q.said ≡ asked_in p.said ++ r ∷ []
Adds p r (Err cause) = Unit {0}

recorded-adds : (p : Progress) (r : Request) (e : Result Effect Refusal) → Adds p r (recorded p r e)
recorded-adds p r (Ok e) = map-append _ p.said _
recorded-adds p r (Err cause) = tt

abbrev Asks : Progress → List Request → Ran → Type 0
Asks p rs (ran q) = asked_in q.said ≡ asked_in p.said ++ rs
Asks p rs (refused j cause) = Unit {0}

module _ (b : Begun) (s : State) where
  more : (p q : Progress) (r : Request) (rs : List Request) (end : Ran) → asked_in q.said ≡ asked_in p.said ++ r ∷ []
      → Asks q rs end → Asks p (r ∷ rs) end
  more p q r rs (ran e) adds asks = asks ∙ rw (adds, append_assoc) refl
  more p q r rs (refused j cause) adds asks = tt

  then-asks : (j : ℕ) (p : Progress) (r : Request) (rs : List Request) (x : Result Progress Refusal) → Adds p r x
      → ((q : Progress) → Asks q rs (run_from b s (j + 1) q rs))
      → Asks p (r ∷ rs) (then_run j x (λ q. run_from b s (j + 1) q rs))
  then-asks j p r rs (Ok q) adds rest = more p q r rs (run_from b s (j + 1) q rs) adds (rest q)
  then-asks j p r rs (Err cause) adds rest = tt

  run_from-asks : (rs : List Request) (j : ℕ) (p : Progress) → Asks p rs (run_from b s j p rs)
  run_from-asks [] j p = sym (append-nil (asked_in p.said))
  run_from-asks (r ∷ rs) j p =
      then-asks j p r rs (step b s p r) (recorded-adds p r _) (λ q. run_from-asks rs (j + 1) q)

  -- where all statements were done, they are what was said
  pub said_of_run : (asked : List Request) (q : Progress) → run b s asked ≡ ran q → asked_in q.said ≡ asked
  said_of_run asked q all = subst (Asks start asked) all (run_from-asks asked 1 start)
