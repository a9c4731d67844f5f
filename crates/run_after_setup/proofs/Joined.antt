-- A job that was run alone and the jobs that several workers ran behind it were run as one.
use Rattle.std.proofs.Common.{◌≡◌, ◌∙◌, ℕ, ℤ, ◌+◌, ◌<◌, List, [], ◌∷◌, ◌++◌, append-nil, append_assoc, map, length, length-append, fold, take, Option, Some, None, Contains, refl, sym, ap, ap₂, subst, inl, inr, arith}
use Rattle.std.specs.Prelude.{IfErr, IfOk, IfSome, Result, Ok, Err}
use Rattle.ion_values.specs.declared.time.TimeParts.{TimeParts}
use Rattle.ledger_model.specs.declared.block.Block.{Block}
use Rattle.ledger_model.specs.declared.outcome.PlacedOutcome.{PlacedOutcome}
use Rattle.ledger_model.specs.Damages.{Undamaged}
use Rattle.ledger_model.specs.Journal.{line}
use Rattle.ledger_model.specs.Script.{Placed}
use Rattle.outside.specs.Told.{StoreTold, held}
use Rattle.turn_lock.specs.History.{Stands}
use Rattle.turn_lock.proofs.Lists.{prefix_trans}
use Rattle.laws_history.specs.Stores.{HoldsBehind, Holding}
use Rattle.laws_machine.specs.Entries.{Entry, Opening, Reach, begun_at, comes, failed, reach_at, reached, sealed, wanted}
use Rattle.laws_history.specs.Runs.{AreWorkers, Served, told_of}
use Rattle.laws_history.specs.Seen.{reach}
use Rattle.laws_history.specs.Tried.{tried_behind, tried_in}
use Rattle.laws_history.proofs.Fitting.{contains_stands}
use Rattle.laws_history.proofs.Lists.{stands_contains, stands_front, stands_rest}
use Rattle.laws_history.proofs.Reaches.{reached_blocks, sealed_in}
use Rattle.ledger_core.specs.Tails.{TailHeld}
use Rattle.ledger_shared.specs.Behind.{AreTimed, GaveBetween, GoesOn, HasTimeOf, HasTimes, IsBehind, IsTimeOf, Keeps, opening_of}
use Rattle.ledger_shared.specs.Ran.{AllHaveRun}
use Rattle.ledger_shared.specs.Rests.{HoldsRest}
use Rattle.run_after_setup.specs.FirstRuns.{RanInTurn}
use Rattle.run_after_setup.proofs.Imaged.{images_joined}
use Rattle.laws_workload.specs.Joining.{HaveWorked, OpensBehind}
use Rattle.laws_workload.proofs.Behind.{blocks_on, count_on, last_on, run_on}
use Rattle.laws_workload.proofs.Joining.{workers_join}

-- ---- the times of blocks

module _ (P Q : TimeParts → Type 0) (wider : (time : TimeParts) → P time → Q time) where
  timed_here : (before other : List Block) (b : Block) → before ≡ other → HasTimeOf P before b → HasTimeOf Q other b
  timed_here before other b same h =
      subst (λ (bs : List Block). HasTimeOf Q bs b) same (record { time = h.time; among = wider h.time h.among; is = h.is })

  timed_same : (r s : Reach) (es : List Entry) → r.blocks ≡ s.blocks → AreTimed P r es → AreTimed Q s es
  timed_same r s [] same h = tt
  timed_same r s (begun_at place number since ∷ es) same h =
      (tt, timed_same (comes r (begun_at place number since)) (comes s (begun_at place number since)) es same h.1)
  timed_same r s (sealed number block ∷ es) same h = (
    timed_here r.blocks s.blocks block same h.0,
    timed_same (comes r (sealed number block)) (comes s (sealed number block)) es
        (ap (λ (bs : List Block). bs ++ block ∷ []) same) h.1,
  )
  timed_same r s (failed number count block ∷ es) same h = (
    timed_here r.blocks s.blocks block same h.0,
    timed_same (comes r (failed number count block)) (comes s (failed number count block)) es same h.1,
  )
  timed_same r s (wanted number None ∷ es) same h =
      (tt, timed_same (comes r (wanted number None)) (comes s (wanted number None)) es same h.1)
  timed_same r s (wanted number (Some block) ∷ es) same h = (
    timed_here r.blocks s.blocks block same h.0,
    timed_same (comes r (wanted number (Some block))) (comes s (wanted number (Some block))) es same h.1,
  )

timed_joined : (P : TimeParts → Type 0) (r : Reach) (es more : List Entry) → AreTimed P r es → AreTimed P (reached r es) more
    → AreTimed P r (es ++ more)
timed_joined P r [] more h k = k
timed_joined P r (e ∷ es) more h k = (h.0, timed_joined P (comes r e) es more h.1 k)

goes_through : (a b c : Option (List ℤ)) → GoesOn a b → GoesOn b c → GoesOn a c
goes_through a b None h k = tt
goes_through a None (Some zs) h k = absurd k
goes_through None (Some ys) (Some zs) h k = absurd h
goes_through (Some xs) (Some ys) (Some zs) h k = prefix_trans xs ys zs h k

contains_front : (xs ys : List ℤ) (x : ℤ) → Contains xs x → Contains (xs ++ ys) x
contains_front xs ys x h = stands_contains x (xs ++ ys) (stands_front x xs ys (contains_stands xs x h))

contains_rest : (xs ys : List ℤ) (x : ℤ) → Contains ys x → Contains (xs ++ ys) x
contains_rest xs ys x h = stands_contains x (xs ++ ys) (stands_rest x xs ys (contains_stands ys x h))

-- what was answered in the first part of the time, or in the second, was answered in all of it
gave_first : (a b c : Option (List ℤ)) (answer : ℤ) → GoesOn b c → GaveBetween a b answer → GaveBetween a c answer
gave_first a b None answer goes h = tt
gave_first a None (Some zs) answer goes h = absurd goes
gave_first None (Some ys) (Some zs) answer goes h = absurd h
gave_first (Some xs) (Some ys) (Some zs) answer goes h = (
  h.0 ++ goes.0,
  sym goes.1 ∙ ap (λ (l : List ℤ). l ++ goes.0) h.1 ∙ append_assoc xs h.0 goes.0,
  contains_front h.0 goes.0 answer h.2,
)

gave_second : (a b c : Option (List ℤ)) (answer : ℤ) → GoesOn a b → GaveBetween b c answer → GaveBetween a c answer
gave_second a b None answer goes h = tt
gave_second a None (Some zs) answer goes h = absurd h
gave_second None (Some ys) (Some zs) answer goes h = absurd goes
gave_second (Some xs) (Some ys) (Some zs) answer goes h = (
  goes.0 ++ h.0,
  h.1 ∙ ap (λ (l : List ℤ). l ++ h.0) (sym goes.1) ∙ append_assoc xs goes.0 h.0,
  contains_rest goes.0 h.0 answer h.2,
)

-- ---- the blocks that were tried

-- those that were tried behind some are behind these too, or behind none where one was sealed
record Front (bs cs : List Block) (es : List Entry) : Type 0 where
  front : List Block
  is : fold tried_behind (bs ++ cs) es ≡ front ++ fold tried_behind cs es

tried_front : (bs cs : List Block) (es : List Entry) → Front bs cs es
tried_front bs cs [] = record { front = bs; is = refl }
tried_front bs cs (begun_at place number since ∷ es) =
    let f = tried_front bs cs es in record { front = f.front; is = f.is }
tried_front bs cs (sealed number block ∷ es) = record { front = []; is = refl }
tried_front bs cs (failed number count block ∷ es) =
    let f = tried_front bs (cs ++ block ∷ []) es in
    record {
      front = f.front;
      is = ap (λ (xs : List Block). fold tried_behind xs es) (append_assoc bs cs (block ∷ [])) ∙ f.is;
    }
tried_front bs cs (wanted number None ∷ es) = let f = tried_front bs cs es in record { front = f.front; is = f.is }
tried_front bs cs (wanted number (Some block) ∷ es) =
    let f = tried_front bs (cs ++ block ∷ []) es in
    record {
      front = f.front;
      is = ap (λ (xs : List Block). fold tried_behind xs es) (append_assoc bs cs (block ∷ [])) ∙ f.is;
    }

fold_joined : (bs : List Block) (es more : List Entry)
    → fold tried_behind bs (es ++ more) ≡ fold tried_behind (fold tried_behind bs es) more
fold_joined bs [] more = refl
fold_joined bs (e ∷ es) more = fold_joined (tried_behind bs e) es more

tried_later : (es more : List Entry) (b : Block) → Contains (tried_in more) b → Contains (tried_in (es ++ more)) b
tried_later es more b h =
    let f = tried_front (tried_in es) [] more in
    let is : tried_in (es ++ more) ≡ f.front ++ tried_in more =
    fold_joined [] es more ∙ ap (λ (xs : List Block). fold tried_behind xs more) (sym (append-nil (tried_in es))) ∙ f.is in
    subst (λ (xs : List Block). Contains xs b) (sym is)
    (stands_contains b (f.front ++ tried_in more) (stands_rest b f.front (tried_in more) (contains_stands (tried_in more) b h)))

-- where none was sealed, those that were tried before were tried last too
stands_still : (bs : List Block) (es : List Entry) (b : Block) → sealed_in es ≡ [] → Stands b bs → Stands b (fold tried_behind bs es)
stands_still bs [] b none h = h
stands_still bs (begun_at place number since ∷ es) b none h = stands_still bs es b none h
stands_still bs (sealed number block ∷ es) b none h = let bad : ⊥ = cc none in absurd bad
stands_still bs (failed number count block ∷ es) b none h =
    stands_still (bs ++ block ∷ []) es b none (stands_front b bs (block ∷ []) h)
stands_still bs (wanted number None ∷ es) b none h = stands_still bs es b none h
stands_still bs (wanted number (Some block) ∷ es) b none h =
    stands_still (bs ++ block ∷ []) es b none (stands_front b bs (block ∷ []) h)

tried_before : (es more : List Entry) (b : Block) → sealed_in more ≡ [] → Contains (tried_in es) b → Contains (tried_in (es ++ more)) b
tried_before es more b none h =
    subst (λ (xs : List Block). Contains xs b) (sym (fold_joined [] es more))
    (stands_contains b _ (stands_still (tried_in es) more b none (contains_stands (tried_in es) b h)))

no_more : (xs ys zs : List Block) → zs ≡ xs ++ ys → zs ≡ xs → ys ≡ []
no_more xs [] zs is same = refl
no_more xs (y ∷ ys) zs is same =
    let longer : length xs ≡ length xs + length (y ∷ ys) = ap length (sym same ∙ is) ∙ length-append xs (y ∷ ys) in
    absurd (omega (arith, longer))

-- ---- what the tail keeps

module _ {S C : Type 0} (told : S → StoreTold) (answers : C → Option (List ℤ)) (always : C → Option ℤ) (opened mid now : TailHeld S C)
    (es more : List Entry) (first : Keeps told answers always opened mid es) (second : Keeps told answers always mid now more) where
  abbrev o : Opening
  o = opening_of told opened

  abbrev behind : Opening
  behind = opening_of told mid

  pub opens : OpensBehind o es behind
  opens = record {
    mask = first.behind.mask;
    blocks = first.behind.blocks;
    last = first.behind.last;
    count = sym first.behind.counts;
  }

  is_behind : IsBehind o opened.standing now.standing (told now.store).faults (es ++ more)
  is_behind = record {
    opening = first.behind.opening;
    of_mask = first.behind.of_mask;
    of_blocks = first.behind.of_blocks;
    of_last = first.behind.of_last;
    run = run_on o behind es opens more first.behind.run second.behind.run;
    mask = second.behind.mask ∙ first.behind.mask;
    blocks = second.behind.blocks ∙ sym (blocks_on o behind es opens more);
    last = second.behind.last ∙ sym (last_on o behind es opens more);
    counts = count_on o behind es opens more ∙ second.behind.counts;
  }

  abbrev T : TimeParts → Type 0
  T = IsTimeOf (always opened.clock) (answers opened.clock) (answers now.clock)

  goes : GoesOn (answers opened.clock) (answers now.clock)
  goes = goes_through (answers opened.clock) (answers mid.clock) (answers now.clock) first.times.goes_on second.times.goes_on

  in_first : (time : TimeParts) → IsTimeOf (always opened.clock) (answers opened.clock) (answers mid.clock) time → T time
  in_first time h = record {
    answer = h.answer;
    one = h.one;
    among = gave_first (answers opened.clock) (answers mid.clock) (answers now.clock) h.answer second.times.goes_on h.among;
    begins = h.begins;
  }

  in_second : (time : TimeParts) → IsTimeOf (always mid.clock) (answers mid.clock) (answers now.clock) time → T time
  in_second time h = record {
    answer = h.answer;
    one = subst (λ (a : Option ℤ). IfSome a (λ same. h.answer ≡ same)) first.times.always_is h.one;
    among = gave_second (answers opened.clock) (answers mid.clock) (answers now.clock) h.answer first.times.goes_on h.among;
    begins = h.begins;
  }

  has_times : HasTimes (always opened.clock) (always now.clock) (answers opened.clock) (answers now.clock) o (es ++ more)
  has_times = record {
    always_is = second.times.always_is ∙ first.times.always_is;
    goes_on = goes;
    timed = timed_joined T (reach_at o) es more
        (timed_same (IsTimeOf (always opened.clock) (answers opened.clock) (answers mid.clock)) T in_first (reach_at o) (reach_at o) es refl
        first.times.timed)
        (timed_same (IsTimeOf (always mid.clock) (answers mid.clock) (answers now.clock)) T in_second (reach_at behind) (reach o es) more
        first.behind.blocks second.times.timed);
  }

  abbrev Rests : List Block → Type 0
  Rests tried = HoldsRest (held (told opened.store)) (held (told now.store)) opened.standing.blocks now.standing.blocks tried

  still : now.standing.blocks ≡ mid.standing.blocks → held (told now.store) ≡ held (told mid.store)
      → HoldsRest (held (told opened.store)) (held (told mid.store)) opened.standing.blocks mid.standing.blocks (tried_in es)
      → Rests (tried_in (es ++ more))
  still same bytes (inl holds) =
      inl (subst (λ (bs : List Block). Holding bs (held (told now.store))) (sym same)
      (subst (λ (x : Option (List ℕ)). Holding mid.standing.blocks x) (sym bytes) holds))
  still same bytes (inr (inl h)) =
      let none = no_more mid.standing.blocks (sealed_in more) now.standing.blocks
      (second.behind.blocks ∙ reached_blocks (reach_at behind) more) same in
      let rest = subst (λ (bs : List Block). HoldsBehind bs (take h.1 (line h.0)) (held (told now.store))) (sym same)
      (subst (λ (x : Option (List ℕ)). HoldsBehind mid.standing.blocks (take h.1 (line h.0)) x) (sym bytes) h.3) in
      let sound = subst (λ (bs : List Block). Undamaged (bs ++ h.0 ∷ [])) (sym same) h.4 in
      inr (inl (h.0, h.1, tried_before es more h.0 none h.2, rest, sound))
  still same bytes (inr (inr h)) = inr (inr (same ∙ h.0, bytes ∙ h.1))

  rests : HoldsRest (held (told mid.store)) (held (told now.store)) mid.standing.blocks now.standing.blocks (tried_in more)
      → Rests (tried_in (es ++ more))
  rests (inl holds) = inl holds
  rests (inr (inl h)) = inr (inl (h.0, h.1, tried_later es more h.0 h.2, h.3, h.4))
  rests (inr (inr h)) = still h.0 h.1 first.rest

  pub keeps_joined : Keeps told answers always opened now (es ++ more)
  keeps_joined = record {
    behind = is_behind;
    times = has_times;
    rest = rests second.rest;
    synced = λ kept. second.synced (first.synced kept);
    images = images_joined told o behind opened mid now es more first.images second.images
        (λ front. sym (blocks_on o behind es opens front));
  }

-- ---- all jobs

module _ {S C : Type 0} (told : S → StoreTold) (answers : C → Option (List ℤ)) (always : C → Option ℤ) (opened mid now : TailHeld S C)
    (p : Placed) (at : p.place.session ≡ 0) (o : PlacedOutcome) (alone : AllHaveRun told answers always 1 (p ∷ []) opened mid (o ∷ [])) where
  -- nothing happened behind the first job
  pub first_stays : Keeps told answers always mid now [] → AllHaveRun told answers always 1 (p ∷ []) opened now (o ∷ [])
  first_stays k = record {
    entries = alone.entries;
    keeps = subst (λ (es : List Entry). Keeps told answers always opened now es) (append-nil alone.entries)
        (keeps_joined told answers always opened mid now alone.entries [] alone.keeps k);
    right = alone.right;
    served = alone.served;
    jobs_are = alone.jobs_are;
    outcomes_are = alone.outcomes_are;
    pass_of = alone.pass_of;
    workers_are = alone.workers_are;
  }

  -- its one job with its outcome
  one_served : (ss : List Served) → p ∷ [] ≡ map (λ (s : Served). s.placed) ss → o ∷ [] ≡ map told_of ss
      → (s : Served) × (ss ≡ s ∷ []) × (s.placed ≡ p) × (o ≡ told_of s)
  one_served [] jobs outcomes = let bad : ⊥ = cc jobs in absurd bad
  one_served (s ∷ []) jobs outcomes = (s, refl, cc jobs, cc outcomes)
  one_served (s ∷ r ∷ ss) jobs outcomes = let bad : ⊥ = cc jobs in absurd bad

  pub all_joined : (workers : ℕ) (jobs : List Placed) (outcomes : List PlacedOutcome) → 0 < workers
      → AllHaveRun told answers always workers jobs mid now outcomes
      → (all : AllHaveRun told answers always workers (p ∷ jobs) opened now (o ∷ outcomes))
      × RanInTurn told workers opened mid all.served all.entries
  all_joined workers jobs outcomes some all =
      let one = one_served alone.served alone.jobs_are alone.outcomes_are in
      let session : one.0.placed.place.session ≡ 0 = ap (λ (x : Placed). x.place.session) one.2 ∙ at in
      let worked : HaveWorked (opening_of told opened) 1 (one.0 ∷ []) alone.entries = record {
        right = alone.right;
        pass_of = alone.pass_of;
        are = subst (λ (ss : List Served). AreWorkers (opening_of told opened) 1 ss alone.entries alone.pass_of) one.1 alone.workers_are;
      } in
      let behind : HaveWorked (opening_of told mid) workers all.served all.entries =
      record { right = all.right; pass_of = all.pass_of; are = all.workers_are } in
      let whole = workers_join (opening_of told opened) (opening_of told mid) workers one.0 all.served alone.entries all.entries session some
      (opens told answers always opened mid now alone.entries all.entries alone.keeps all.keeps) worked behind in (
        record {
          entries = alone.entries ++ all.entries;
          keeps = keeps_joined told answers always opened mid now alone.entries all.entries alone.keeps all.keeps;
          right = whole.right;
          served = one.0 ∷ all.served;
          jobs_are = ap₂ (λ (x : Placed) (xs : List Placed). x ∷ xs) (sym one.2) all.jobs_are;
          outcomes_are = ap₂ (λ (x : PlacedOutcome) (xs : List PlacedOutcome). x ∷ xs) one.3 all.outcomes_are;
          pass_of = whole.pass_of;
          workers_are = whole.are;
        },
        record {
          first = one.0;
          others = all.served;
          es = alone.entries;
          more = all.entries;
          served_are = refl;
          entries_are = refl;
          alone = worked;
          opens = opens told answers always opened mid now alone.entries all.entries alone.keeps all.keeps;
          rest = behind;
        },
      )

-- ---- what a result gives

pub if_ok : {A E : Type 0} (P Q : A → Type 0) (r : Result A E) → IfOk r P → ((x : A) → P x → Q x) → IfOk r Q
if_ok P Q (Ok x) h more = more x h
if_ok P Q (Err e) h more = tt

pub if_err : {A E : Type 0} (P Q : E → Type 0) (r : Result A E) → IfErr r P → ((e : E) → P e → Q e) → IfErr r Q
if_err P Q (Ok x) h more = tt
if_err P Q (Err e) h more = more e h
