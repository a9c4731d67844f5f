-- What all workers have served, as one list in the script's order.
use Rattle.std.proofs.Common.{◌≡◌, ◌∙◌, ℕ, ◌<◌, ◌%◌, ◌==◌, Bool, true, false, cond, List, [], ◌∷◌, map, refl, sym, ap, mod-lt}
use Rattle.std.proofs.lemmas.Bool.{eqb-false, eqb-true}
use Rattle.ledger_model.specs.Script.{Placed}
use Rattle.laws_history.specs.Runs.{Served, dealt}
use Rattle.ledger_shared.specs.Sessions.{dealt_jobs}

abbrev pub placed_in : List Served → List Placed
placed_in ss = map (λ (s : Served). s.placed) ss

-- the job comes first in the list
record ComesFirst (p : Placed) (left : List Placed) (ss : List Served) : Type 0 where
  pub first : Served
  pub behind : List Served
  pub is : ss ≡ first ∷ behind
  pub of_job : first.placed ≡ p
  pub left_is : placed_in behind ≡ left

comes_first : (p : Placed) (left : List Placed) (ss : List Served) → placed_in ss ≡ p ∷ left → ComesFirst p left ss
comes_first p left [] e = absurd (cc e)
comes_first p left (s ∷ ss) e =
    let own : s.placed ≡ p = cc e in
    let rest : placed_in ss ≡ left = cc e in
    record { first = s; behind = ss; is = refl; of_job = own; left_is = rest }

nothing_in : (ss : List Served) → placed_in ss ≡ [] → ss ≡ []
nothing_in [] e = refl
nothing_in (s ∷ ss) e = absurd (cc e)

same_numbers : (n : ℕ) (b : Bool) → (n == n) ≡ b → b ≡ true
same_numbers n true e = refl
same_numbers n false e = absurd (eqb-false n n e refl)

-- ---- one worker's list without its first job

module _ (r0 : ℕ) (tl : List Served) (f : ℕ → List Served) where
  abbrev taken : ℕ → List Served
  taken r = cond (r0 == r) tl (f r)

  taken_at : (r : ℕ) (b : Bool) → (r0 == r) ≡ b → taken r ≡ cond b tl (f r)
  taken_at r b e = ap (λ (x : Bool). cond x tl (f r)) e

-- all lists together have each of these jobs once, in this order
pub record Merges (workers : ℕ) (ps : List Placed) (f : ℕ → List Served) : Type 0 where
  pub served : List Served
  pub jobs : placed_in served ≡ ps
  pub dealt_is : (r : ℕ) → r < workers → dealt workers r served ≡ f r

module _ (workers : ℕ) (some : 0 < workers) where
  module _ (p : Placed) (ps : List Placed) (f : ℕ → List Served)
      (each : (r : ℕ) → r < workers → placed_in (f r) ≡ dealt_jobs workers r (p ∷ ps)) where
    abbrev r0 : ℕ
    r0 = p.place.session % workers

    low : r0 < workers
    low = mod-lt p.place.session some

    own : placed_in (f r0) ≡ p ∷ dealt_jobs workers r0 ps
    own =
        each r0 low
        ∙ ap (λ (b : Bool). cond b (p ∷ dealt_jobs workers r0 ps) (dealt_jobs workers r0 ps)) (same_numbers r0 (r0 == r0) refl)

    module _ (c : ComesFirst p (dealt_jobs workers r0 ps) (f r0)) where
      abbrev left : ℕ → List Served
      left r = taken r0 c.behind f r

      left_by : (r : ℕ) (b : Bool) → (r0 == r) ≡ b → r < workers → placed_in (left r) ≡ dealt_jobs workers r ps
      left_by r true e less =
          let same : r0 ≡ r = eqb-true r0 r e in
          ap placed_in (taken_at r0 c.behind f r true e) ∙ c.left_is ∙ ap (λ n. dealt_jobs workers n ps) same
      left_by r false e less =
          ap placed_in (taken_at r0 c.behind f r false e) ∙ each r less
          ∙ ap (λ (b : Bool). cond b (p ∷ dealt_jobs workers r ps) (dealt_jobs workers r ps)) e

      left_each : (r : ℕ) → r < workers → placed_in (left r) ≡ dealt_jobs workers r ps
      left_each r less = left_by r (r0 == r) refl less

      module _ (m : Merges workers ps left) where
        dealt_first : (r : ℕ) → dealt workers r (c.first ∷ m.served) ≡ cond (r0 == r) (c.first ∷ dealt workers r m.served) (dealt workers r m.served)
        dealt_first r =
            ap (λ (q : Placed). cond (q.place.session % workers == r) (c.first ∷ dealt workers r m.served) (dealt workers r m.served)) c.of_job

        dealt_by : (r : ℕ) (b : Bool) → (r0 == r) ≡ b → r < workers → dealt workers r (c.first ∷ m.served) ≡ f r
        dealt_by r true e less =
            let same : r0 ≡ r = eqb-true r0 r e in
            dealt_first r ∙ ap (λ (b : Bool). cond b (c.first ∷ dealt workers r m.served) (dealt workers r m.served)) e
            ∙ ap (λ l. c.first ∷ l) (m.dealt_is r less ∙ taken_at r0 c.behind f r true e) ∙ sym c.is ∙ ap f same
        dealt_by r false e less =
            dealt_first r ∙ ap (λ (b : Bool). cond b (c.first ∷ dealt workers r m.served) (dealt workers r m.served)) e
            ∙ m.dealt_is r less ∙ taken_at r0 c.behind f r false e

        merges_one : Merges workers (p ∷ ps) f
        merges_one = record {
          served = c.first ∷ m.served;
          jobs = (λ i. c.of_job i ∷ m.jobs i);
          dealt_is = λ r less. dealt_by r (r0 == r) refl less;
        }

  pub merges : (ps : List Placed) (f : ℕ → List Served) → ((r : ℕ) → r < workers → placed_in (f r) ≡ dealt_jobs workers r ps)
      → Merges workers ps f
  merges [] f each = record { served = []; jobs = refl; dealt_is = λ r less. sym (nothing_in (f r) (each r less)) }
  merges (p ∷ ps) f each =
      let c = comes_first p (dealt_jobs workers (p.place.session % workers) ps) (f (p.place.session % workers)) (own p ps f each) in
      merges_one p ps f each c (merges ps (left p ps f each c) (left_each p ps f each c))
