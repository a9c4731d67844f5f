-- A run of some statements is that of the first and then of the others.
use Rattle.std.proofs.Common.{◌≡◌, ◌∙◌, ℕ, ◌+◌, List, ◌∷◌, refl, ap, Option, Some, None, Result, Ok, Err}
use Rattle.pql_model.specs.declared.statement.Statement.{Statement}
use Rattle.ledger_model.specs.declared.outcome.Refusal.{Refusal}
use Rattle.ledger_model.specs.declared.script.Request.{Request}
use Rattle.ledger_model.specs.Run.{Begun, Effect, Progress, effect_of, first_deep, if_read, if_shallow, ran, recorded, run_from, then_run}
use Rattle.ledger_model.specs.State.{State}
use Rattle.ledger_model.specs.Statements.{statement_of}

-- one step, by the statement that the request asks for
abbrev stepped : Begun → State → Progress → Request → Result Statement Refusal → Result Progress Refusal
stepped b s p r x =
    recorded p r (if_read (λ st. if_shallow (first_deep r.params) (effect_of b s p r.params st)) x)

module _ (b : Begun) (s : State) where
  -- the first statement, what it does, and the progress with it
  pub record First (j : ℕ) (p : Progress) (r : Request) (rs : List Request) (q : Progress) : Type 0 where
    pub st : Statement
    pub asks : statement_of r ≡ Ok st
    pub shallow : first_deep r.params ≡ None
    pub effect : Effect
    pub does : effect_of b s p r.params st ≡ Ok effect
    pub after : Progress
    pub records : recorded p r (Ok effect) ≡ Ok after
    pub others : run_from b s (j + 1) after rs ≡ ran q

  module _ (j : ℕ) (p : Progress) (r : Request) (rs : List Request) (q : Progress) where
    by_effect : (st : Statement) (x : Result Effect Refusal) (y : Progress) → statement_of r ≡ Ok st
        → first_deep r.params ≡ None → effect_of b s p r.params st ≡ x
        → recorded p r x ≡ Ok y → run_from b s (j + 1) y rs ≡ ran q → First j p r rs q
    by_effect st (Err cause) y asks shallow is h rest = cc
    by_effect st (Ok f) y asks shallow is h rest =
        record {
          st = st;
          asks = asks;
          shallow = shallow;
          effect = f;
          does = is;
          after = y;
          records = h;
          others = rest;
        }

    by_depth : (st : Statement) (deep : Option ℕ) (y : Progress) → statement_of r ≡ Ok st
        → first_deep r.params ≡ deep
        → recorded p r (if_shallow deep (effect_of b s p r.params st)) ≡ Ok y → run_from b s (j + 1) y rs ≡ ran q
        → First j p r rs q
    by_depth st None y asks shallow h rest = by_effect st (effect_of b s p r.params st) y asks shallow refl h rest
    by_depth st (Some depth) y asks shallow h rest = cc

    by_result : (asked : Result Statement Refusal) (x : Result Progress Refusal) → statement_of r ≡ asked
        → stepped b s p r asked ≡ x
        → then_run j x (λ y. run_from b s (j + 1) y rs) ≡ ran q → First j p r rs q
    by_result asked (Err cause) from is h = cc
    by_result (Err cause) (Ok y) from is h = cc
    by_result (Ok st) (Ok y) from is h = by_depth st (first_deep r.params) y from refl is h

    pub first_of_run : run_from b s j p (r ∷ rs) ≡ ran q → First j p r rs q
    first_of_run h = by_result (statement_of r) (stepped b s p r (statement_of r)) refl refl h

-- the same at another state
pub run_of_first : (b : Begun) (s now : State) (j : ℕ) (p : Progress) (r : Request) (rs : List Request) (q : Progress)
    (w : First b s j p r rs q)
    → effect_of b now p r.params w.st ≡ effect_of b s p r.params w.st → run_from b now (j + 1) w.after rs ≡ ran q
    → run_from b now j p (r ∷ rs) ≡ ran q
run_of_first b s now j p r rs q w same rest =
    ap (λ x. then_run j (stepped b now p r x) (λ y. run_from b now (j + 1) y rs)) w.asks
    ∙ ap (λ d. then_run j (recorded p r (if_shallow d (effect_of b now p r.params w.st)))
    (λ y. run_from b now (j + 1) y rs)) w.shallow
    ∙ ap (λ x. then_run j (recorded p r x) (λ y. run_from b now (j + 1) y rs)) (same ∙ w.does)
    ∙ ap (λ x. then_run j x (λ y. run_from b now (j + 1) y rs)) w.records
    ∙ rest
