-- How a transaction's statements end, one after another.
use Rattle.std.proofs.Common.{◌≡◌, ℕ, ◌+◌, ◌<◌, ◌≤◌, List, ◌∷◌, length, get_or, drop, Result, Ok, Err, sym, ◌∙◌, ap, subst}
use Rattle.std.proofs.lemmas.List.{drop_more, drop_all}
use Rattle.ledger_model.specs.declared.outcome.Refusal.{Refusal}
use Rattle.ledger_model.specs.declared.script.Request.{Request}
use Rattle.ledger_model.specs.Run.{Progress, Ran, run_from, ran, refused, then_run}
use Rattle.txn_core.specs.Opened.{Opened, Steps, step_of}

-- the transaction with what its statements did so far
abbrev pub with_done : Opened → Progress → Opened
with_done t p = record t { done = p }

abbrev pub run_on : Opened → ℕ → List Request → Ran
run_on t j rs = run_from t.begun t.base j t.done rs

next-one : (t : Opened) (j : ℕ) (rs : List Request) (i : ℕ) (r : Request) (all : Ran) → i < length rs → r ≡ get_or rs i r
    → run_on t j (drop i rs) ≡ all → run_on t j (r ∷ drop (i + 1) rs) ≡ all
next-one t j rs i r all within is so_far =
    let front : drop i rs ≡ r ∷ drop (i + 1) rs = drop_more rs i r within ∙ ap (λ (x : Request). x ∷ drop (i + 1) rs) (sym is) in
    subst (λ (left : List Request). run_on t j left ≡ all) front so_far

next-ends : (t : Opened) (j : ℕ) (rs : List Request) (i : ℕ) (r : Request) (all : Ran) (end : Result Progress Refusal) → i < length rs → r ≡ get_or rs i r
    → step_of t r ≡ end → run_on t j (drop i rs) ≡ all → then_run j end (λ q. run_from t.begun t.base (j + 1) q (drop (i + 1) rs)) ≡ all
next-ends t j rs i r all end within is ends so_far =
    let rest : Progress → Ran = λ q. run_from t.begun t.base (j + 1) q (drop (i + 1) rs) in
    subst (λ (x : Result Progress Refusal). then_run j x rest ≡ all) ends (next-one t j rs i r all within is so_far)

pub run-on : (t now : Opened) (j : ℕ) (rs : List Request) (i : ℕ) (r : Request) (all : Ran) → i < length rs → r ≡ get_or rs i r
    → Steps t r now → run_on t j (drop i rs) ≡ all → run_on now (j + 1) (drop (i + 1) rs) ≡ all
run-on t now j rs i r all within is steps so_far =
    ap (λ (x : Opened). run_on x (j + 1) (drop (i + 1) rs)) steps.rest
    ∙ next-ends t j rs i r all (Ok now.done) within is steps.step so_far

pub run-refused : (t : Opened) (j : ℕ) (rs : List Request) (i : ℕ) (r : Request) (all : Ran) (cause : Refusal) → i < length rs → r ≡ get_or rs i r
    → step_of t r ≡ Err cause → run_on t j (drop i rs) ≡ all → refused j cause ≡ all
run-refused t j rs i r all cause within is stopped so_far = next-ends t j rs i r all (Err cause) within is stopped so_far

pub run-done : (t : Opened) (j : ℕ) (rs : List Request) (i : ℕ) (all : Ran) → length rs ≤ i → run_on t j (drop i rs) ≡ all → ran t.done ≡ all
run-done t j rs i all past so_far = sym (ap (run_on t j) (drop_all i rs past)) ∙ so_far
