-- A job that ran first and alone and the workers behind it are the workers of one run.
use Rattle.std.proofs.Common.{◌≡◌, ◌∙◌, ℕ, zero, suc, ◌+◌, ◌-◌, ◌%◌, ◌<◌, ◌≤◌, Bool, true, false, cond, List, [], ◌∷◌, ◌++◌, map, length, slice_get, Some, refl, sym, ap, subst, ⊎_elim, arith, append-nil, eq-eqb}
use Rattle.std.proofs.lemmas.Bool.{cases_lt, ne_eqb}
use mathlib.Core.List.{IsPrefix}
use Rattle.turn_lock.specs.declared.view.Known.{Known}
use Rattle.turn_lock.specs.declared.view.Placed.{Placed}
use Rattle.turn_lock.specs.History.{Stands, newborn, placed, with_seen}
use Rattle.turn_lock.proofs.Lists.{prefix_longer}
use Rattle.session_driver.specs.Retries.{Retried}
use Rattle.laws_machine.specs.Entries.{Entry, Opening}
use Rattle.laws_history.specs.Attempts.{Attempted}
use Rattle.laws_history.specs.Runs.{HasWorked, Served, Works, dealt, is_dealt}
use Rattle.laws_history.proofs.Lists.{stands_front, stands_map, stands_rest}
use Rattle.laws_workload.specs.Joining.{HaveWorked, OpensBehind, WorkersJoin}
use Rattle.laws_workload.proofs.Behind.{blocks_on, last_on, right_on}
use Rattle.laws_workload.proofs.Moving.{further, lifted, prefix_behind, works_less, works_lifted}

-- ---- an item of one of two lists

get_front : (es more : List Entry) (i : ℕ) (e : Entry) → i < length es → slice_get (es ++ more) i ≡ Some e → slice_get es i ≡ Some e
get_front [] more i e low h = absurd (omega (arith, low))
get_front (x ∷ es) more zero e low h = h
get_front (x ∷ es) more (suc i) e low h = get_front es more i e (omega (arith, low)) h

get_behind : (es more : List Entry) (i : ℕ) (e : Entry) → length es ≤ i → slice_get (es ++ more) i ≡ Some e
    → slice_get more (i - length es) ≡ Some e
get_behind [] more i e low h = let same : i ≡ i - 0 = omega arith in subst (λ n. slice_get more n ≡ Some e) same h
get_behind (x ∷ es) more zero e low h = absurd (omega (arith, low))
get_behind (x ∷ es) more (suc i) e low h =
    let same : i - length es ≡ suc i - length (x ∷ es) = omega arith in
    subst (λ n. slice_get more n ≡ Some e) same (get_behind es more i e (omega (arith, low)) h)

-- ---- which jobs are dealt

dealt_skips : (workers rest : ℕ) (s : Served) (ss : List Served) → is_dealt workers rest s ≡ false
    → dealt workers rest (s ∷ ss) ≡ dealt workers rest ss
dealt_skips workers rest s ss e =
    ap (λ (b : Bool). cond b (s ∷ dealt workers rest ss) (dealt workers rest ss)) e

pub dealt_takes : (workers rest : ℕ) (s : Served) (ss : List Served) → is_dealt workers rest s ≡ true
    → dealt workers rest (s ∷ ss) ≡ s ∷ dealt workers rest ss
dealt_takes workers rest s ss e =
    ap (λ (b : Bool). cond b (s ∷ dealt workers rest ss) (dealt workers rest ss)) e

pub zero_rest : (workers n : ℕ) → n ≡ 0 → n % workers ≡ 0
zero_rest workers n e = ap (λ m. m % workers) e ∙ (let is : 0 % workers ≡ 0 = omega arith in is)

-- ---- the passes

module _ (o behind : Opening) (workers : ℕ) (first : Served) (ss : List Served) (es more : List Entry)
    (at : first.placed.place.session ≡ 0) (some : 0 < workers) (b : OpensBehind o es behind)
    (alone : HaveWorked o 1 (first ∷ []) es) (all : HaveWorked behind workers ss more) where
  -- the pass that ran the first job
  abbrev front : Known Entry
  front = alone.pass_of 0

  one : HasWorked o 1 0 (first ∷ []) front
  one = alone.are.worked 0 (omega arith)

  ran : Works o (first ∷ []) one.start front
  ran =
      subst (λ (xs : List Served). Works o xs one.start front)
      (dealt_takes 1 0 first [] (eq-eqb _ 0 (zero_rest 1 first.placed.place.session at))) one.works

  front_seen : IsPrefix front.seen es
  front_seen = alone.are.seen 0 (omega arith)

  lifts : (base : Known Entry) (xs : List Served) (k now : Known Entry) → Works behind xs k now
      → Works o xs (lifted es base k) (lifted es base now)
  lifts base = works_lifted o behind es base b.mask (blocks_on o behind es b) (last_on o behind es b)

  -- the pass goes on with the jobs that are dealt to its worker
  abbrev goes_on : List Served → Known Entry → Known Entry
  goes_on [] now = front
  goes_on (x ∷ xs) now = lifted es front now

  works_on : (xs : List Served) (start now : Known Entry) → start.own ≡ [] → Works behind xs start now
      → Works o xs front (goes_on xs now)
  works_on [] start now none h = refl
  works_on (x ∷ xs) start now none h =
      let own : front.own ++ map (further es) start.own ≡ front.own =
      ap (λ (ys : List (Placed Entry)). front.own ++ map (further es) ys) none ∙ append-nil front.own in
      let is : lifted es front start ≡ with_seen front (es ++ start.seen) =
      λ i. record front { seen = es ++ start.seen; own = own i } in
      works_less o front (es ++ start.seen) (prefix_longer front.seen es start.seen front_seen) x xs (lifted es front now)
      (subst (λ (k : Known Entry). Works o (x ∷ xs) k (lifted es front now)) is (lifts front (x ∷ xs) start now h))

  seen_on : (xs : List Served) (now : Known Entry) → IsPrefix now.seen more → IsPrefix (goes_on xs now).seen (es ++ more)
  seen_on [] now p = prefix_longer front.seen es more front_seen
  seen_on (x ∷ xs) now p = prefix_behind es now.seen more p

  own_front : (xs : List Served) (now : Known Entry) (y : Placed Entry) → Stands y front.own → Stands y (goes_on xs now).own
  own_front [] now y h = h
  own_front (x ∷ xs) now y h = stands_front y front.own (map (further es) now.own) h

  own_on : (xs : List Served) (start now : Known Entry) (y : Placed Entry) → start.own ≡ [] → Works behind xs start now
      → Stands y now.own → Stands (further es y) (goes_on xs now).own
  own_on [] start now y none e h =
      absurd (subst (λ (ys : List (Placed Entry)). Stands y ys) (ap (λ (k : Known Entry). k.own) (sym e) ∙ none) h)
  own_on (x ∷ xs) start now y none works h =
      stands_rest (further es y) front.own (map (further es) now.own) (stands_map (further es) y now.own h)

  pass_of : ℕ → Known Entry
  pass_of zero = goes_on (dealt workers 0 ss) (all.pass_of 0)
  pass_of (suc n) = lifted es newborn (all.pass_of (suc n))

  worked : (rest : ℕ) → rest < workers → HasWorked o workers rest (first ∷ ss) (pass_of rest)
  unfolding pass_of
  worked zero low =
      let w = all.are.worked 0 low in
      record {
        start = one.start;
        owns_none = one.owns_none;
        works = subst (λ (xs : List Served). Works o xs one.start (pass_of 0))
            (sym (dealt_takes workers 0 first ss (eq-eqb _ 0 (zero_rest workers first.placed.place.session at)))) (
              front,
              subst (λ (k : Known Entry).
                  Retried (Attempted o) first.placed.job first.placed.place one.start first.outcome k) ran.2 ran.1,
              works_on (dealt workers 0 ss) w.start (all.pass_of 0) w.owns_none w.works,
            );
      }
  worked (suc n) low =
      let w = all.are.worked (suc n) low in
      let none : is_dealt workers (suc n) first ≡ false =
      ne_eqb _ (suc n) (λ (e : first.placed.place.session % workers ≡ suc n).
      let bad = sym (zero_rest workers first.placed.place.session at) ∙ e in omega (arith, bad)) in
      record {
        start = lifted es newborn w.start;
        owns_none = ap (map (further es)) w.owns_none;
        works = subst (λ (xs : List Served). Works o xs (lifted es newborn w.start) (pass_of (suc n)))
            (sym (dealt_skips workers (suc n) first ss none))
            (lifts newborn (dealt workers (suc n) ss) w.start (all.pass_of (suc n)) w.works);
      }

  seen : (rest : ℕ) → rest < workers → IsPrefix (pass_of rest).seen (es ++ more)
  unfolding pass_of
  seen zero low = seen_on (dealt workers 0 ss) (all.pass_of 0) (all.are.seen 0 low)
  seen (suc n) low = prefix_behind es (all.pass_of (suc n)).seen more (all.are.seen (suc n) low)

  -- ---- whose an entry is

  abbrev Owned : ℕ → Entry → Type 0
  Owned i e = (rest : ℕ) × (rest < workers) × Stands (placed i e) (pass_of rest).own

  owned_front : (i : ℕ) (e : Entry) → slice_get es i ≡ Some e → Owned i e
  unfolding pass_of
  owned_front i e there =
      let w = alone.are.owned i e there in
      let is : w.0 ≡ 0 = let low = w.1 in omega (arith, low) in
      let mine = subst (λ n. Stands (placed i e) (alone.pass_of n).own) is w.2 in
      (0, some, own_front (dealt workers 0 ss) (all.pass_of 0) (placed i e) mine)

  moved : (i : ℕ) (e : Entry) (rest : ℕ) → rest < workers → Stands (placed i e) (all.pass_of rest).own
      → Stands (further es (placed i e)) (pass_of rest).own
  unfolding pass_of
  moved i e zero low h =
      let w = all.are.worked 0 low in
      own_on (dealt workers 0 ss) w.start (all.pass_of 0) (placed i e) w.owns_none w.works h
  moved i e (suc n) low h = stands_map (further es) (placed i e) (all.pass_of (suc n)).own h

  owned_behind : (i : ℕ) (e : Entry) → length es ≤ i → slice_get more (i - length es) ≡ Some e → Owned i e
  unfolding pass_of
  owned_behind i e high there =
      let w = all.are.owned (i - length es) e there in
      let is : length es + (i - length es) ≡ i = omega (arith, high) in
      let mine = subst (λ n. Stands (placed n e) (pass_of w.0).own) is (moved (i - length es) e w.0 w.1 w.2) in
      (w.0, w.1, mine)

  owned : (i : ℕ) (e : Entry) → slice_get (es ++ more) i ≡ Some e → Owned i e
  owned i e there =
      ⊎_elim (λ (low : i < length es). owned_front i e (get_front es more i e low there))
      (λ (high : length es ≤ i). owned_behind i e high (get_behind es more i e high there)) (cases_lt i (length es))

  joined : HaveWorked o workers (first ∷ ss) (es ++ more)
  joined = record {
    right = right_on o behind es b more alone.right all.right;
    pass_of = pass_of;
    are = record { worked = worked; seen = seen; owned = owned };
  }

pub workers_join : WorkersJoin
workers_join o behind workers first ss es more at some b alone all = joined o behind workers first ss es more at some b alone all
