-- What the desks of a run leave, from what each worker has run.
use Rattle.std.proofs.Common.{◌≡◌, ◌∙◌, ℕ, zero, suc, ◌+◌, ◌%◌, ◌<◌, ◌≤◌, ◌==◌, ◌⊎◌, inl, inr, Bool, true, false, cond, List, [], ◌∷◌, ◌++◌, append-nil, drop, length, map, take, get_or, slice_get, Some, ap, arith, refl, subst, sym, mod-lt}
use Rattle.std.proofs.lemmas.Bool.{cases_lt}
use Rattle.std.proofs.lemmas.List.{drop_all, get_or_default, length-map, take_all}
use Rattle.std.proofs.lemmas.Option.{slice_get_within}
use Rattle.std.specs.Prelude.{slice_index_or}
use Rattle.atomic_table.specs.Seated.{TableId}
use Rattle.outside.specs.Told.{StoreTold}
use Rattle.ledger_model.specs.declared.outcome.PlacedOutcome.{PlacedOutcome}
use Rattle.ledger_model.specs.declared.script.Job.{Job}
use Rattle.ledger_model.specs.Script.{Placed, all_placed}
use Rattle.turn_lock.specs.declared.view.Known.{Known}
use Rattle.turn_lock.specs.Rule.{Each}
use Rattle.turn_lock.proofs.Lists.{each_of_all}
use Rattle.laws_machine.specs.Entries.{Entry, Opening}
use Rattle.laws_history.specs.Passes.{place_of}
use Rattle.laws_history.specs.Runs.{Served, Works, dealt, told_of}
use Rattle.ledger_core.specs.Tails.{TailHeld}
use Rattle.ledger_shared.specs.declared.workers.Desk.{Desk}
use Rattle.ledger_shared.specs.Behind.{opening_of}
use Rattle.ledger_shared.specs.Desks.{AreDealt, AreReady, HaveEnded, HaveWorked, IsAt, IsIdle, dealt_outcomes, knowns}
use Rattle.ledger_shared.specs.Dealt.{HasRun}
use Rattle.ledger_shared.specs.Sessions.{HasServed, course, dealt_jobs}
use Rattle.ledger_shared.specs.Workers.{WorkerHeld}
use Rattle.ledger_shared.proofs.Merged.{place_again, place_low, rest_again}
use Rattle.ledger_shared.proofs.Orders.{Merges, merges, placed_in}
use Rattle.ledger_shared.proofs.Named.{IsOfOne, works_one}
use Rattle.ledger_shared.proofs.Whole.{AreOfOne, whole_on}

-- ---- lists by their places

pub each_at : {A : Type 0} (P : A → Type 0) (xs : List A) (i : ℕ) (d : A) → Each P xs → i < length xs → P (get_or xs i d)
each_at P [] i d h low = absurd (omega (arith, low))
each_at P (x ∷ xs) zero d h low = h.0
each_at P (x ∷ xs) (suc i) d h low = each_at P xs i d h.1 (omega (arith, low))

get_mapped : {A B : Type 0} (f : A → B) (xs : List A) (i : ℕ) (y : B) (d : A) → slice_get (map f xs) i ≡ Some y → y ≡ f (get_or xs i d)
get_mapped f [] i y d e = absurd (cc e)
get_mapped f (x ∷ xs) zero y d e = cc e
get_mapped f (x ∷ xs) (suc i) y d e = get_mapped f xs i y d e

-- a desk of some
pub one_of : {A : Type 0} (xs : List A) → 0 < length xs → A
one_of [] some = absurd (omega (arith, some))
one_of (x ∷ xs) some = x

-- the passes of both lists of desks are the same passes
ones_by : {S C G : Type 0} (d : Desk S C G) (xs ys : List (Desk S C G)) → length ys ≡ length xs
    → ((i : ℕ) → i < length xs → IsOfOne (get_or xs i d).worker.known (get_or ys i d).worker.known) → AreOfOne (knowns xs) (knowns ys)
ones_by d [] [] l h = tt
ones_by d [] (y ∷ ys) l h = absurd (omega (arith, l))
ones_by d (x ∷ xs) [] l h = absurd (omega (arith, l))
ones_by d (x ∷ xs) (y ∷ ys) l h =
    let own : IsOfOne x.worker.known y.worker.known = h 0 (omega arith) in
    (own.name, own.splits, ones_by d xs ys (omega (arith, l)) (λ i low. h (suc i) (omega (arith, low))))

-- ---- what one worker has served

-- its jobs, each with its outcome
pub record HasKept (o : Opening) (jobs : List Placed) (before after : Known Entry) (outcomes : List PlacedOutcome) : Type 0 where
  pub served : List Served
  pub jobs_are : placed_in served ≡ jobs
  pub outcomes_are : outcomes ≡ map told_of served
  pub works : Works o served before after

module _ {S C : Type 0} (told : S → StoreTold) (n rest : ℕ) (jobs : List Placed) (before after : WorkerHeld S C)
    (kept outcomes : List PlacedOutcome) (h : HasRun told n rest jobs before kept after outcomes) (none : kept ≡ []) where
  abbrev o : Opening
  o = opening_of told before.opened

  abbrev mine : List Placed
  mine = dealt_jobs n rest jobs

  nothing : HasServed o (mine ++ []) (mine ++ []) (course kept before.known) (course kept before.known)
  nothing = record { served = []; jobs = refl; outcomes = sym (append-nil kept); works = refl }

  all_served : HasServed o (mine ++ []) [] (course kept before.known) (course outcomes after.known)
  all_served = h.serves (mine ++ []) [] (course kept before.known) nothing

  pub has_kept : HasKept o mine before.known after.known outcomes
  has_kept = record {
    served = all_served.served;
    jobs_are = sym (append-nil (placed_in all_served.served)) ∙ all_served.jobs ∙ append-nil mine;
    outcomes_are = all_served.outcomes ∙ ap (λ l. l ++ map told_of all_served.served) none;
    works = all_served.works;
  }

-- ---- what all workers have served

told_by : (s : Served) (outcomes : List PlacedOutcome) (ss : List Served) → outcomes ≡ map told_of ss → (b : Bool)
    → cond b (told_of s ∷ outcomes) outcomes ≡ map told_of (cond b (s ∷ ss) ss)
told_by s outcomes ss e true = ap (λ l. told_of s ∷ l) e
told_by s outcomes ss e false = e

told_dealt : (n rest : ℕ) (ss : List Served) → dealt_outcomes n rest (map told_of ss) ≡ map told_of (dealt n rest ss)
told_dealt n rest [] = refl
told_dealt n rest (s ∷ ss) =
    told_by s (dealt_outcomes n rest (map told_of ss)) (dealt n rest ss) (told_dealt n rest ss) (s.placed.place.session % n == rest)

places_told : (ss : List Served) → map (λ (x : PlacedOutcome). x.place) (map told_of ss) ≡ map (λ (p : Placed). p.place) (placed_in ss)
places_told [] = refl
places_told (s ∷ ss) = ap (λ l. s.placed.place ∷ l) (places_told ss)

module _ {S C G : Type 0} (told : S → StoreTold) (table : TableId) (opened : TailHeld S C) (script : List (List Job))
    (first middle last : List (Desk S C G)) (outcomes : List PlacedOutcome) (ready : AreReady table opened first) (some : 0 < length first)
    (middle_long : length middle ≡ length first) (last_long : length last ≡ length first)
    (ran : (i : ℕ) (d : Desk S C G) → i < length first → HasRun told (length first) ((i + 1) % length first) (all_placed script)
    (slice_index_or first i d).worker (slice_index_or first i d).outcomes.items (slice_index_or middle i d).worker
    (slice_index_or middle i d).outcomes.items)
    (d : Desk S C G) where
  abbrev n : ℕ
  n = length first

  abbrev jobs : List Placed
  jobs = all_placed script

  abbrev op : Opening
  op = opening_of told opened

  idle : (i : ℕ) → i < n → IsIdle table opened (get_or first i d)
  idle i low = each_at (IsIdle table opened) first i d ready.idle low

  kept : (i : ℕ) → i < n → HasKept op (dealt_jobs n ((i + 1) % n) jobs) (get_or first i d).worker.known (get_or middle i d).worker.known (get_or middle i d).outcomes.items
  kept i low =
      let is = idle i low in
      subst (λ t. HasKept (opening_of told t) (dealt_jobs n ((i + 1) % n) jobs) (get_or first i d).worker.known (get_or middle i d).worker.known (get_or middle i d).outcomes.items)
      is.0.1
      (has_kept told n ((i + 1) % n) jobs (get_or first i d).worker (get_or middle i d).worker (get_or first i d).outcomes.items
      (get_or middle i d).outcomes.items (ran i d low) is.2)

  -- ---- one list in the script's order

  abbrev chosen : (i : ℕ) → (i < n) ⊎ (n ≤ i) → List Served
  chosen i (inl low) = (kept i low).served
  chosen i (inr high) = []

  chosen_jobs : (i : ℕ) → i < n → (w : (i < n) ⊎ (n ≤ i)) → placed_in (chosen i w) ≡ dealt_jobs n ((i + 1) % n) jobs
  chosen_jobs i low (inl l) = (kept i l).jobs_are
  chosen_jobs i low (inr high) = absurd (omega (arith, low, high))

  chosen_outcomes : (i : ℕ) → i < n → (w : (i < n) ⊎ (n ≤ i)) → (get_or middle i d).outcomes.items ≡ map told_of (chosen i w)
  chosen_outcomes i low (inl l) = (kept i l).outcomes_are
  chosen_outcomes i low (inr high) = absurd (omega (arith, low, high))

  chosen_works : (i : ℕ) → i < n → (w : (i < n) ⊎ (n ≤ i)) → Works op (chosen i w) (get_or first i d).worker.known (get_or middle i d).worker.known
  chosen_works i low (inl l) = (kept i l).works
  chosen_works i low (inr high) = absurd (omega (arith, low, high))

  abbrev at_rest : ℕ → List Served
  at_rest rest = chosen (place_of n rest) (cases_lt (place_of n rest) n)

  rest_jobs : (rest : ℕ) → rest < n → placed_in (at_rest rest) ≡ dealt_jobs n rest jobs
  rest_jobs rest low =
      chosen_jobs (place_of n rest) (place_low n rest low) (cases_lt (place_of n rest) n)
      ∙ ap (λ k. dealt_jobs n k jobs) (rest_again n rest low)

  m : Merges n jobs at_rest
  m = merges n some jobs at_rest rest_jobs

  dealt_desk : (i : ℕ) → i < n → dealt n ((i + 1) % n) m.served ≡ chosen i (cases_lt i n)
  dealt_desk i low =
      m.dealt_is ((i + 1) % n) (mod-lt (i + 1) some) ∙ ap (λ j. chosen j (cases_lt j n)) (place_again n i low)

  are_dealt : AreDealt script middle (map told_of m.served)
  are_dealt = record {
    places = places_told m.served ∙ ap (λ ps. map (λ (p : Placed). p.place) ps) m.jobs;
    dealt = λ i e low.
        let low' : i < n = omega (arith, low, middle_long) in
        ap (λ (x : Desk S C G). x.outcomes.items) (get_or_default middle i e d low) ∙ chosen_outcomes i low' (cases_lt i n)
        ∙ ap (λ ss. map told_of ss) (sym (dealt_desk i low')) ∙ sym (told_dealt n ((i + 1) % n) m.served)
        ∙ ap (λ k. dealt_outcomes k ((i + 1) % k) (map told_of m.served)) (sym middle_long);
  }

  pub dealt_some : (all : List PlacedOutcome) × AreDealt script middle all
  dealt_some = (map told_of m.served, are_dealt)

  module _ (merged : (all : List PlacedOutcome) → AreDealt script middle all → outcomes ≡ all)
      (same : (i : ℕ) (e : Desk S C G) → i < length middle → (slice_index_or last i e).worker ≡ (slice_index_or middle i e).worker) where
    worker_is : (i : ℕ) → i < n → (get_or last i d).worker ≡ (get_or middle i d).worker
    worker_is i low = same i d (omega (arith, low, middle_long))

    have_worked : HaveWorked op n jobs (knowns last) outcomes
    have_worked = record {
      as_many = length-map last (λ (x : Desk S C G). x.worker.known) ∙ last_long;
      served = m.served;
      jobs_are = sym m.jobs;
      outcomes_are = merged (map told_of m.served) are_dealt;
      worked = λ i k there.
          let within = slice_get_within (knowns last) i k there in
          let low : i < n = omega (arith, within, length-map last (λ (x : Desk S C G). x.worker.known), last_long) in
          let is : k ≡ (get_or middle i d).worker.known =
          get_mapped (λ (x : Desk S C G). x.worker.known) last i k d there ∙ ap (λ (w : WorkerHeld S C). w.known) (worker_is i low) in
          let start = (get_or first i d).worker.known in
          record {
            start = start;
            owns_none = (idle i low).1;
            works = subst (λ ss. Works op ss start k) (sym (dealt_desk i low))
                (subst (λ x. Works op (chosen i (cases_lt i n)) start x) (sym is) (chosen_works i low (cases_lt i n)));
          };
    }

    of_one : (i : ℕ) → i < n → IsOfOne (get_or first i d).worker.known (get_or last i d).worker.known
    of_one i low =
        subst (λ (w : WorkerHeld S C). IsOfOne (get_or first i d).worker.known w.known) (sym (worker_is i low))
        (works_one op (chosen i (cases_lt i n)) (get_or first i d).worker.known (get_or middle i d).worker.known (chosen_works i low (cases_lt i n)))

    of_table : (i : ℕ) → i < n → IsAt table opened (get_or last i d)
    of_table i low = (
      ap (λ (w : WorkerHeld S C). w.table) (worker_is i low) ∙ (ran i d low).table ∙ (idle i low).0.0,
      ap (λ (w : WorkerHeld S C). w.opened) (worker_is i low) ∙ (ran i d low).opened ∙ (idle i low).0.1,
    )

    pub has_ended : HaveEnded told table opened n jobs last outcomes
    has_ended = record {
      of = each_of_all (IsAt table opened) last
          (λ i e low.
          let low' : i < n = omega (arith, low, last_long) in
          subst (λ (x : Desk S C G). IsAt table opened x) (get_or_default last i d e low) (of_table i low'));
      whole = whole_on (knowns first) (knowns last) (ones_by d first last last_long of_one) ready.whole;
      worked = have_worked;
    }

-- all desks of a list were lent and came back, and take the places of those before
module _ {S C G : Type 0} (told : S → StoreTold) (table : TableId) (opened : TailHeld S C) (workers : ℕ) (jobs : List Placed) (outcomes : List PlacedOutcome)
    (many : ℕ) (desks back : List (Desk S C G)) (as_long : length back ≡ length desks) (all : many ≡ length desks) where
  came_back : take many (back ++ drop (length back) desks) ≡ back
  came_back =
      ap (λ l. take many (back ++ l)) (drop_all (length back) desks (omega (arith, as_long))) ∙ ap (take many) (append-nil back)
      ∙ take_all many back (omega (arith, as_long, all))

  pub have_come_back : HaveEnded told table opened workers jobs back outcomes
      → HaveEnded told table opened workers jobs (take many (back ++ drop (length back) desks)) outcomes
  have_come_back ended = subst (λ ds. HaveEnded told table opened workers jobs ds outcomes) (sym came_back) ended
