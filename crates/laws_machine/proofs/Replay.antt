-- A run with one statement more is one step behind the run without it.
use Rattle.std.proofs.Common.{◌≡◌, ◌∙◌, ℕ, ◌+◌, List, [], ◌∷◌, ◌++◌, length, ap, arith, Result, Ok, Err}
use Rattle.ledger_model.specs.declared.outcome.Refusal.{Refusal}
use Rattle.ledger_model.specs.declared.script.Request.{Request}
use Rattle.ledger_model.specs.Run.{Begun, Progress, Ran, ran, run, run_from, start, step, then_run}
use Rattle.ledger_model.specs.State.{State}

module _ (b : Begun) (s : State) where
  -- the statement of this number behind what was done
  abbrev next : ℕ → Progress → Request → Ran
  next j q r = then_run j (step b s q r) ran

  then_more : (j : ℕ) (r : Request) (rs : List Request) (q : Progress) (x : Result Progress Refusal)
      → ((y : Progress) → run_from b s (j + 1) y rs ≡ ran q
      → run_from b s (j + 1) y (rs ++ r ∷ []) ≡ next (j + 1 + length rs) q r)
      → then_run j x (λ y. run_from b s (j + 1) y rs) ≡ ran q
      → then_run j x (λ y. run_from b s (j + 1) y (rs ++ r ∷ [])) ≡ next (j + 1 + length rs) q r
  then_more j r rs q (Err cause) ih h = cc h
  then_more j r rs q (Ok y) ih h = ih y h

  more_from : (j : ℕ) (p : Progress) (r : Request) (rs : List Request) (q : Progress) → run_from b s j p rs ≡ ran q
      → run_from b s j p (rs ++ r ∷ []) ≡ next (j + length rs) q r
  more_from j p r [] q h =
      let same : p ≡ q = cc h in
      let number : j ≡ j + 0 = omega arith in
      ap (λ y. next j y r) same ∙ ap (λ i. next i q r) number
  more_from j p r (x ∷ rs) q h =
      let number : j + 1 + length rs ≡ j + length (x ∷ rs) = omega arith in
      then_more j r rs q (step b s p x) (λ y k. more_from (j + 1) y r rs q k) h ∙ ap (λ i. next i q r) number

  pub run_more : (asked : List Request) (r : Request) (q : Progress) → run b s asked ≡ ran q
      → run b s (asked ++ r ∷ []) ≡ then_run (length asked + 1) (step b s q r) ran
  run_more asked r q h =
      let number : 1 + length asked ≡ length asked + 1 = omega arith in
      more_from 1 start r asked q h ∙ ap (λ i. next i q r) number
