-- The outcomes of all desks, taken from the last session to the first one.
use Rattle.std.proofs.Common.{◌≡◌, ◌∙◌, ℕ, zero, suc, ◌+◌, ◌-◌, ◌%◌, ◌<◌, ◌≤◌, ◌⊎◌, List, [], ◌∷◌, ◌++◌, append-nil, append_assoc, length, length-append, take, get_or, ap, arith, inl, inr, refl, subst, sym, ⊎_elim, mod-eq_of_lt, mod-lt}
use Rattle.std.specs.Prelude.{reverse, slice_index_or, slice_set}
use Rattle.std.proofs.Math.Nat.{add-mod, mod_self}
use Rattle.std.proofs.lemmas.Bool.{cases_lt}
use Rattle.std.proofs.lemmas.Bool.Decides.{eqb_tells}
use Rattle.std.proofs.lemmas.List.{get_or-set_other, get_or-set_same, length-reverse, length-set, map-append, reverse-append, take_all}
use Rattle.ledger_model.specs.declared.outcome.PlacedOutcome.{PlacedOutcome}
use Rattle.ledger_model.specs.declared.script.Job.{Job}
use Rattle.ledger_model.specs.Script.{all_placed, placed_from}
use Rattle.laws_history.specs.Passes.{place_of}
use Rattle.ledger_shared.specs.declared.workers.Desk.{Desk}
use Rattle.ledger_shared.specs.Desks.{AreDealt, dealt_outcomes}
use Rattle.ledger_shared.specs.Sessions.{job_count}
use Rattle.ledger_shared.proofs.Moved.{AreOf, Cut, as_many, cut, dealt_both, dealt_here, dealt_there, front_left, of_session, placed_at, places_of, same_ends}

-- ---- the desks' places and the rests of the sessions

pub rest_again : (n rest : ℕ) → rest < n → (place_of n rest + 1) % n ≡ rest
rest_again n zero low =
    let all : n - 1 + 1 ≡ n = omega (arith, low) in ap (λ m. m % n) all ∙ mod_self n
rest_again n (suc rest) low =
    let next : rest + 1 ≡ suc rest = omega arith in ap (λ m. m % n) next ∙ mod-eq_of_lt low

pub place_low : (n rest : ℕ) → rest < n → place_of n rest < n
place_low n zero low = omega (arith, low)
place_low n (suc rest) low = omega (arith, low)

pub place_again : (n i : ℕ) → i < n → place_of n ((i + 1) % n) ≡ i
place_again n i low =
    ⊎_elim
    (λ (less : i + 1 < n). let next : i + 1 ≡ suc i = omega arith in ap (place_of n) (mod-eq_of_lt less ∙ next))
    (λ (most : n ≤ i + 1).
    let all : i + 1 ≡ n = omega (arith, low, most) in
    let one : n - 1 ≡ i = omega (arith, all) in ap (place_of n) (ap (λ m. m % n) all ∙ mod_self n) ∙ one)
    (cases_lt (i + 1) n)

one_place : (n i j : ℕ) → i < n → j < n → (i + 1) % n ≡ (j + 1) % n → i ≡ j
one_place n i j a b e = sym (place_again n i a) ∙ ap (place_of n) e ∙ place_again n j b

mod_next : (n x : ℕ) → 0 < n → (x % n + 1) % n ≡ (1 + x) % n
mod_next n x some =
    let turned : x + 1 ≡ 1 + x = omega arith in
    add-mod (x % n) 1 n ∙ ap (λ k. (k + 1 % n) % n) (mod-eq_of_lt (mod-lt x some)) ∙ sym (add-mod x 1 n) ∙ ap (λ m. m % n) turned

-- ---- the sessions in front are left

module _ {S C G : Type 0} where
  -- Of these outcomes of all jobs those of the first sessions are with the desks, and the others are moved, the last one first.
  pub record Moving (left : ℕ) (script : List (List Job)) (desks : List (Desk S C G)) (moved all : List PlacedOutcome) : Type 0 where
    pub front : List PlacedOutcome
    pub places : places_of front ≡ placed_at (all_placed (take left script))
    pub is : all ≡ front ++ reverse moved
    pub dealt : (i : ℕ) (d : Desk S C G) → i < length desks
        → (slice_index_or desks i d).outcomes.items ≡ dealt_outcomes (length desks) ((i + 1) % length desks) front

  pub moving_first : (script : List (List Job)) (desks : List (Desk S C G)) (moved all : List PlacedOutcome) → moved ≡ []
      → AreDealt script desks all → Moving (length script) script desks moved all
  moving_first script desks moved all none h = record {
    front = all;
    places = h.places ∙ ap (λ s. placed_at (all_placed s)) (sym (take_all (length script) script (omega arith)));
    is = sym (append-nil all) ∙ ap (λ l. all ++ reverse l) (sym none);
    dealt = h.dealt;
  }

  pub moving_last : (script : List (List Job)) (desks : List (Desk S C G)) (moved all : List PlacedOutcome)
      → Moving 0 script desks moved all → reverse moved ≡ all
  moving_last script desks moved all m = sym (m.is ∙ ap (λ l. l ++ reverse moved) (none m.front m.places))
    where
      none : (front : List PlacedOutcome) → places_of front ≡ [] → front ≡ []
      none [] e = refl
      none (x ∷ xs) e = absurd (cc e)

  -- the next session's outcomes stand at the end of the desk of its worker
  module _ (left : ℕ) (script : List (List Job)) (desks : List (Desk S C G)) (moved all : List PlacedOutcome) (jobs : List Job)
      (some : 0 < length desks) (within : left < length script) (jobs_are : jobs ≡ get_or script left jobs)
      (m : Moving (suc left) script desks moved all) where
    abbrev n : ℕ
    n = length desks

    abbrev at : ℕ
    at = left % n

    pub split : Cut (placed_at (all_placed (take left script))) (placed_at (placed_from (1 + left) 1 jobs)) m.front
    split = cut (placed_at (all_placed (take left script))) (placed_at (placed_from (1 + left) 1 jobs)) m.front
        (m.places ∙ ap placed_at (front_left 1 left script jobs within jobs_are)
        ∙ map-append (λ p. p.place) (all_placed (take left script)) (placed_from (1 + left) 1 jobs))

    of_last : AreOf (1 + left) split.last
    of_last = of_session (1 + left) 1 jobs split.last split.of_back

    pub last_length : length split.last ≡ length jobs
    last_length = as_many (1 + left) 1 jobs split.last split.of_back

    parts : (rest : ℕ) → dealt_outcomes n rest m.front ≡ dealt_outcomes n rest split.first ++ dealt_outcomes n rest split.last
    parts rest = ap (dealt_outcomes n rest) split.is ∙ dealt_both n rest split.first split.last

    pub at_low : at < n
    at_low = mod-lt left some

    -- what the desk of the session's worker has
    own_list : (d : Desk S C G) → (slice_index_or desks at d).outcomes.items ≡ dealt_outcomes n ((at + 1) % n) split.first ++ split.last
    own_list d =
        m.dealt at d at_low ∙ parts ((at + 1) % n)
        ∙ ap (λ l. dealt_outcomes n ((at + 1) % n) split.first ++ l)
        (dealt_here n ((at + 1) % n) (1 + left) split.last (sym (mod_next n left some)) of_last)

    pub enough : (d : Desk S C G) → length jobs ≤ length (slice_index_or desks at d).outcomes.items
    enough d =
        omega (arith, ap length (own_list d), length-append (dealt_outcomes n ((at + 1) % n) split.first) split.last, last_length)

    other_list : (i : ℕ) (d : Desk S C G) → i < n → (i ≡ at → ⊥) → (slice_index_or desks i d).outcomes.items ≡ dealt_outcomes n ((i + 1) % n) split.first
    other_list i d low other =
        m.dealt i d low ∙ parts ((i + 1) % n)
        ∙ ap (λ l. dealt_outcomes n ((i + 1) % n) split.first ++ l)
        (dealt_there n ((i + 1) % n) (1 + left) split.last
        (λ e. other (one_place n i at low at_low (sym (mod_next n left some ∙ e)))) of_last)
        ∙ append-nil (dealt_outcomes n ((i + 1) % n) split.first)

    -- as many outcomes are taken from its end
    module _ (desk : Desk S C G) (took : List PlacedOutcome) (as_long : length took ≡ length jobs)
        (left_is : (d : Desk S C G) → desk.outcomes.items ++ reverse took ≡ (slice_index_or desks at d).outcomes.items) where
      ends : (desk.outcomes.items ≡ dealt_outcomes n ((at + 1) % n) split.first) × (reverse took ≡ split.last)
      ends = same_ends desk.outcomes.items (reverse took) (dealt_outcomes n ((at + 1) % n) split.first) split.last
          (left_is desk ∙ own_list desk) (length-reverse took ∙ as_long ∙ sym last_length)

      abbrev desks' : List (Desk S C G)
      desks' = slice_set desks at desk

      same_length : length desks' ≡ n
      same_length = length-set desks at desk

      at_place : (i : ℕ) (d : Desk S C G) → i < n → (i ≡ at) ⊎ (i ≡ at → ⊥)
          → (slice_index_or desks' i d).outcomes.items ≡ dealt_outcomes n ((i + 1) % n) split.first
      at_place i d low (inl same) =
          ap (λ j. (slice_index_or desks' j d).outcomes.items) same
          ∙ ap (λ (x : Desk S C G). x.outcomes.items) (get_or-set_same desks at desk d at_low) ∙ ends.0
          ∙ ap (λ j. dealt_outcomes n ((j + 1) % n) split.first) (sym same)
      at_place i d low (inr other) =
          ap (λ (x : Desk S C G). x.outcomes.items) (get_or-set_other desks at i desk d other) ∙ other_list i d low other

      same_or : (i : ℕ) → (i ≡ at) ⊎ (i ≡ at → ⊥)
      same_or i = elim (eqb_tells i at) [ inl t ↦ inl t.1 | inr f ↦ inr f.1 ]

      pub moving_next : Moving left script desks' (moved ++ took) all
      moving_next = record {
        front = split.first;
        places = split.of_front;
        is =
            m.is ∙ ap (λ l. l ++ reverse moved) split.is ∙ append_assoc split.first split.last (reverse moved)
            ∙ ap (λ l. split.first ++ (l ++ reverse moved)) (sym ends.1) ∙ ap (λ l. split.first ++ l) (sym (reverse-append moved took));
        dealt = λ i d low.
            let low' : i < n = omega (arith, low, same_length) in
            at_place i d low' (same_or i) ∙ ap (λ k. dealt_outcomes k ((i + 1) % k) split.first) (sym same_length);
      }

-- the jobs in front, and those of one session more
pub count_front : (left : ℕ) (script : List (List Job)) (jobs : List Job) → left < length script → jobs ≡ get_or script left jobs
    → job_count (take (suc left) script) ≡ job_count (take left script) + length jobs
count_front left [] jobs within is = absurd (omega (arith, within))
count_front zero (x ∷ script) jobs within is = omega (arith, ap length is)
count_front (suc left) (x ∷ script) jobs within is =
    let more = count_front left script jobs (omega (arith, within)) is in omega (arith, more)

-- ---- one step of the walk from the last session to the first one

module _ {S C G : Type 0} (behind : ℕ) (script : List (List Job)) (desks : List (Desk S C G)) (jobs : List Job) (more : 0 < behind)
    (low : behind ≤ length script) (jobs_are : jobs ≡ get_or script (behind - 1) jobs) where
  back : suc (behind - 1) ≡ behind
  back = omega (arith, more)

  inside : behind - 1 < length script
  inside = omega (arith, more, low)

  pub count_step : job_count (take behind script) ≡ job_count (take (behind - 1) script) + length jobs
  count_step = ap (λ k. job_count (take k script)) (sym back) ∙ count_front (behind - 1) script jobs inside jobs_are

  module _ (some : 0 < length desks) (moved all : List PlacedOutcome) (m : Moving behind script desks moved all) where
    here : Moving (suc (behind - 1)) script desks moved all
    here = subst (λ k. Moving k script desks moved all) (sym back) m

    pub enough_step : (d : Desk S C G) → length jobs ≤ length (slice_index_or desks ((behind - 1) % length desks) d).outcomes.items
    enough_step d = enough (behind - 1) script desks moved all jobs some inside jobs_are here d

    pub moving_step : (desk : Desk S C G) (took : List PlacedOutcome) → length took ≡ length jobs
        → ((d : Desk S C G) → desk.outcomes.items ++ reverse took ≡ (slice_index_or desks ((behind - 1) % length desks) d).outcomes.items)
        → Moving (behind - 1) script (slice_set desks ((behind - 1) % length desks) desk) (moved ++ took) all
    moving_step desk took long left = moving_next (behind - 1) script desks moved all jobs some inside jobs_are here desk took long left

-- a desk's outcomes change, and its worker stays
module _ {S C G : Type 0} (desks : List (Desk S C G)) (at : ℕ) (desk : Desk S C G) (low : at < length desks)
    (same : (d : Desk S C G) → desk.worker ≡ (slice_index_or desks at d).worker) where
  workers_set : (i : ℕ) (d : Desk S C G) → (i ≡ at) ⊎ (i ≡ at → ⊥)
      → (slice_index_or (slice_set desks at desk) i d).worker ≡ (slice_index_or desks i d).worker
  workers_set i d (inl is) =
      ap (λ j. (slice_index_or (slice_set desks at desk) j d).worker) is
      ∙ ap (λ (x : Desk S C G). x.worker) (get_or-set_same desks at desk d low) ∙ same d
      ∙ ap (λ j. (slice_index_or desks j d).worker) (sym is)
  workers_set i d (inr other) = ap (λ (x : Desk S C G). x.worker) (get_or-set_other desks at i desk d other)

  pub workers_step : (i : ℕ) (d : Desk S C G) → (slice_index_or (slice_set desks at desk) i d).worker ≡ (slice_index_or desks i d).worker
  workers_step i d = workers_set i d (elim (eqb_tells i at) [ inl t ↦ inl t.1 | inr f ↦ inr f.1 ])
