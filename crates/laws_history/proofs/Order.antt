-- Each outcome of a run is true, and those of one worker came in the script's order.
use Rattle.std.proofs.Common.{◌≡◌, ℕ, ◌+◌, ◌%◌, ◌<◌, ◌≤◌, Bool, true, false, cond, List, [], ◌∷◌, ◌++◌, map, length, Option, Some, None, sym, refl, ap, ◌∙◌, subst, inl, inr, arith}
use Rattle.std.proofs.lemmas.Bool.{eqb-false}
use Rattle.std.specs.Prelude.{IfSome}
use Rattle.std.specs.List.{AllByRecursion}
use mathlib.Core.List.{IsPrefix}
use Rattle.ql_types.specs.Ids.{raw_id, transaction_in}
use Rattle.ql_types.specs.declared.TxId.{TxId}
use Rattle.ledger_model.specs.declared.outcome.Outcome.{Outcome}
use Rattle.ledger_model.specs.declared.outcome.Outcome.TheVariants.{Committed, Conflict, Refused, DigestDiffers, StoreFault, JournalFull, IdsSpent, Aborted, Denied, OutOfMemory}
use Rattle.ledger_model.specs.declared.outcome.PlacedOutcome.{PlacedOutcome}
use Rattle.ledger_model.specs.Script.{Placed}
use Rattle.turn_lock.specs.declared.view.Known.{Known}
use Rattle.turn_lock.specs.History.{Stands}
use Rattle.turn_lock.proofs.Lists.{prefix_trans}
use Rattle.laws_validity.proofs.Lists.{all_append, all_like}
use Rattle.laws_history.specs.Records.{RunRecord, CameToCommit, HasNoBlock, HaveOneWorker, attempts, greatest, stood_before, told_id}
use Rattle.laws_history.proofs.Numbers.{transaction_of_id}
use Rattle.laws_machine.specs.Entries.{Entry, Opening, Reach, begun_at, reach_at}
use Rattle.laws_history.specs.Seen.{blocks_in, reach}
use Rattle.laws_history.specs.Claims.{AllBefore, EachHolds, Holds, RunsBefore, RunsPast, retried, stood_behind}
use Rattle.laws_history.specs.Runs.{IsRunBy, Served, dealt, is_dealt, opening_of, told_of}
use Rattle.laws_history.proofs.Dealt.{own_dealt, rest_of}
use Rattle.laws_history.proofs.Links.{InTime, IsLink, Link}
use Rattle.laws_history.proofs.Owners.{bound, line, rest_low}
use Rattle.laws_history.proofs.Reaches.{comes_behind, fewer_blocks, lasts_on, may_come, run_prefix}
use Rattle.laws_history.proofs.Lists.{prefix_front}
use Rattle.laws_history.proofs.Makes.{is_committed}
use Rattle.laws_history.proofs.Tells.{IsNumbered, spare}

module _ (t : RunRecord) (ss : List Served) (es : List Entry) (pass_of : ℕ → Known Entry) (r : IsRunBy t ss es pass_of)
    (blockless : (s : Served) → Stands s ss → is_committed s.outcome ≡ false → HasNoBlock t s.placed) where
  abbrev o : Opening
  o = opening_of t

  link_later : (l : Link) → IsLink t es l → IsPrefix l.from l.until
  link_later l is = prefix_trans l.from l.mid l.until is.from_mid is.mid_until

  -- ---- what was over at a moment

  -- the id is that of a number which was drawn by then
  pub record IsDrawnBy (from : List Entry) (raw : ℕ) : Type 0 where
    pub number : ℕ
    pub id : raw ≡ raw_id t.mask number 0
    pub drawn : number ≤ (reach o from).last

  pub record IsOver (from : List Entry) (x : Outcome) : Type 0 where
    pub numbers : AllByRecursion (IsDrawnBy from) (told_id x)
    pub ends : IfSome (stood_behind x) (λ n. n ≤ length (blocks_in o from))

  number_is : (l : Link) → IsLink t es l → (raw : ℕ) (n : IsNumbered o l.served.placed.place l.mid l.until raw)
      → n.number ≡ (reach o n.front).last + 1
  number_is l is raw n =
      (may_come (reach_at o) n.front (begun_at l.served.placed.place n.number n.since) es
      (prefix_trans (n.front ++ begun_at l.served.placed.place n.number n.since ∷ []) l.until es n.within is.inside)
      r.right.run).0

  drawn_by : (l : Link) → IsLink t es l → (from : List Entry) → IsPrefix l.until from → IsPrefix from es → (raw : ℕ)
      → IsNumbered o l.served.placed.place l.mid l.until raw → IsDrawnBy from raw
  drawn_by l is from p q raw n =
      let e : Entry = begun_at l.served.placed.place n.number n.since in
      let high =
      lasts_on (reach_at o) (n.front ++ e ∷ []) from (prefix_trans (n.front ++ e ∷ []) l.until from n.within p)
      (run_prefix (reach_at o) from es q r.right.run) in
      let own : (reach o (n.front ++ e ∷ [])).last ≡ n.number =
      ap (λ (x : Reach). x.last) (comes_behind (reach_at o) n.front e) in
      record { number = n.number; id = n.id; drawn = omega (arith, high, own) }

  some_later : (few many : ℕ) → few ≤ many → (x : Option ℕ) → IfSome x (λ n. n ≤ few) → IfSome x (λ n. n ≤ many)
  some_later few many low None h = h
  some_later few many low (Some n) h = omega (arith, low, h)

  -- the job's outcome was over at each moment behind its last attempt
  pub over : (l : Link) → IsLink t es l → (from : List Entry) → IsPrefix l.until from → IsPrefix from es
      → IsOver from l.served.outcome
  over l is from p q = record {
    numbers = all_like (IsNumbered o l.served.placed.place l.mid l.until) (IsDrawnBy from) (drawn_by l is from p q)
        (told_id l.served.outcome) is.numbers;
    ends = some_later (length (blocks_in o l.until)) (length (blocks_in o from))
        (fewer_blocks (reach_at o) l.until from p)
        (stood_behind l.served.outcome) is.ends;
  }

  -- ---- one job behind another

  greater : (l : Link) → IsLink t es l → (m : ℕ) → IsDrawnBy l.from m → (n : ℕ)
      → IsNumbered o l.served.placed.place l.mid l.until n → transaction_in t.mask m < transaction_in t.mask n
  greater l is m was n now =
      let first : transaction_in t.mask m ≡ was.number = ap (transaction_in t.mask) was.id
      ∙ transaction_of_id t.mask was.number in
      let second : transaction_in t.mask n ≡ now.number = ap (transaction_in t.mask) now.id
      ∙ transaction_of_id t.mask now.number in
      let next = number_is l is n now in
      let low = lasts_on (reach_at o) l.from now.front (prefix_trans l.from l.mid now.front is.from_mid now.behind)
      (run_prefix (reach_at o) now.front es
      (prefix_front now.front (begun_at l.served.placed.place now.number now.since) es
      (prefix_trans
      (now.front ++ begun_at l.served.placed.place now.number now.since ∷ []) l.until es now.within is.inside))
      r.right.run) in
      omega (arith, first, second, next, low, was.drawn)

  joined : (few extra many : ℕ) (behind before : Option ℕ) → few + extra ≤ many → IfSome behind (λ m. m ≤ few)
      → IfSome before (λ n. many ≤ n) → IfSome behind (λ m. IfSome before (λ n. m + extra ≤ n))
  joined few extra many None before low h k = tt
  joined few extra many (Some m) None low h k = tt
  joined few extra many (Some m) (Some n) low h k = omega (arith, low, h, k)

  -- what ran on some blocks at the least ran on fewer at the least
  abbrev came_fewer : (p : Placed) (tx : TxId) (low high : ℕ) → low ≤ high → CameToCommit t p tx high
      → CameToCommit t p tx low
  came_fewer p tx low high less h = record {
    number = h.number;
    id = h.id;
    since = h.since;
    from = omega (arith, less, h.from);
    not_past = h.not_past;
    progress = h.progress;
    ends = h.ends;
  }

  past_fewer : (p : Placed) (x : Outcome) (low high : ℕ) → low ≤ high → RunsPast t p x high → RunsPast t p x low
  past_fewer p (StoreFault tx count) low high less h = came_fewer p tx low high less h
  past_fewer p (JournalFull tx blocks) low high less h = record {
    came = came_fewer p tx low high less h.came;
    untouched = h.untouched;
  }
  past_fewer p (Committed tx block) low high less h = tt
  past_fewer p (Conflict tx since named) low high less h = tt
  past_fewer p (Refused tx since statement cause) low high less h = tt
  past_fewer p (DigestDiffers tx since mine given) low high less h = tt
  past_fewer p (IdsSpent last) low high less h = tt
  past_fewer p (Aborted tx since) low high less h = tt
  past_fewer p (Denied statement action table rule) low high less h = tt
  past_fewer p OutOfMemory low high less h = tt

  past_all : (p : Placed) (x : Outcome) (few many : ℕ) (behind : Option ℕ) → few ≤ many → IfSome behind (λ m. m ≤ few)
      → RunsPast t p x many → IfSome behind (λ m. RunsPast t p x m)
  past_all p x few many None low h k = tt
  past_all p x few many (Some m) low h k = past_fewer p x m many (omega (arith, low, h)) k

  pub runs_before : (l : Link) → IsLink t es l → (first : Outcome) → IsOver l.from first
      → RunsBefore t first l.served.placed l.served.outcome
  runs_before l is first was = record {
    numbers = all_like (IsDrawnBy l.from)
        (λ m. AllByRecursion (λ n. transaction_in t.mask m < transaction_in t.mask n) (told_id l.served.outcome))
        (λ m drawn. all_like (IsNumbered o l.served.placed.place l.mid l.until)
        (λ n. transaction_in t.mask m < transaction_in t.mask n) (greater l is m drawn)
        (told_id l.served.outcome) is.numbers)
        (told_id first) was.numbers;
    blocks = joined (length (blocks_in o l.from)) (retried l.served.placed.job l.served.outcome)
        (length (blocks_in o l.mid)) (stood_behind first) (stood_before l.served.outcome)
        (omega (arith, is.late, is.moved)) was.ends is.starts;
    past = past_all l.served.placed l.served.outcome (length (blocks_in o l.from)) (length (blocks_in o l.mid))
        (stood_behind first) (fewer_blocks (reach_at o) l.from l.mid is.from_mid) was.ends is.past;
  }

  -- ---- a worker between two jobs of the script

  -- these outcomes are told, and those jobs of the worker are to come
  record Stage (rest : ℕ) (done : List PlacedOutcome) (more : List Served) : Type 0 where
    links : List Link
    served : map (λ (l : Link). l.served) links ≡ dealt t.workers rest more
    each : AllByRecursion (IsLink t es) links
    in_time : InTime links
    before : AllByRecursion
        (λ (d : PlacedOutcome). d.place.session % t.workers ≡ rest
        → AllByRecursion (λ (l : Link). IsOver l.from d.outcome) links) done

  -- its next job
  record Next (s : Served) (done : List PlacedOutcome) : Type 0 where
    link : Link
    is : IsLink t es link
    served : link.served ≡ s
    before : AllByRecursion
        (λ (d : PlacedOutcome). d.place.session % t.workers ≡ rest_of t.workers s → IsOver link.from d.outcome) done

  next_of : (s : Served) (rest : List Served) (done : List PlacedOutcome) (ls : List Link)
      → map (λ (l : Link). l.served) ls ≡ s ∷ rest → AllByRecursion (IsLink t es) ls
      → AllByRecursion
      (λ (d : PlacedOutcome). d.place.session % t.workers ≡ rest_of t.workers s
      → AllByRecursion (λ (l : Link). IsOver l.from d.outcome) ls) done
      → Next s done
  next_of s rest done [] e each before = let bad : ⊥ = cc e in absurd bad
  next_of s rest done (l ∷ ls) e each before = record {
    link = l;
    is = each.0;
    served = cc e;
    before = all_like
        (λ (d : PlacedOutcome). d.place.session % t.workers ≡ rest_of t.workers s
        → AllByRecursion (λ (m : Link). IsOver m.from d.outcome) (l ∷ ls))
        (λ (d : PlacedOutcome). d.place.session % t.workers ≡ rest_of t.workers s → IsOver l.from d.outcome)
        (λ d h same. (h same).0) done before;
  }

  next : (s : Served) (more : List Served) (done : List PlacedOutcome) → Stage (rest_of t.workers s) done (s ∷ more)
      → Next s done
  next s more done g =
      next_of s (dealt t.workers (rest_of t.workers s) more) done g.links
      (g.served
      ∙ ap (λ (b : Bool). cond b (s ∷ dealt t.workers (rest_of t.workers s) more)
      (dealt t.workers (rest_of t.workers s) more))
      (own_dealt t.workers s))
      g.each g.before

  -- one job further, for its own worker and for another one
  own_further : (rest : ℕ) (s : Served) (more : List Served) (done : List PlacedOutcome) (ls : List Link)
      → map (λ (l : Link). l.served) ls ≡ s ∷ dealt t.workers rest more → AllByRecursion (IsLink t es) ls → InTime ls
      → AllByRecursion
      (λ (d : PlacedOutcome). d.place.session % t.workers ≡ rest
      → AllByRecursion (λ (l : Link). IsOver l.from d.outcome) ls) done
      → Stage rest (done ++ told_of s ∷ []) more
  own_further rest s more done [] e each in_time before = let bad : ⊥ = cc e in absurd bad
  own_further rest s more done (l ∷ ls) e each in_time before =
      let same : l.served ≡ s = cc e in
      record {
        links = ls;
        served = cc e;
        each = each.1;
        in_time = in_time.1;
        before = all_append
            (λ (d : PlacedOutcome). d.place.session % t.workers ≡ rest
            → AllByRecursion (λ (m : Link). IsOver m.from d.outcome) ls)
            done (told_of s ∷ [])
            (all_like
            (λ (d : PlacedOutcome). d.place.session % t.workers ≡ rest
            → AllByRecursion (λ (m : Link). IsOver m.from d.outcome) (l ∷ ls))
            (λ (d : PlacedOutcome). d.place.session % t.workers ≡ rest
            → AllByRecursion (λ (m : Link). IsOver m.from d.outcome) ls)
            (λ d h k. (h k).1) done before) (
              λ k. subst (λ (x : Served). AllByRecursion (λ (m : Link). IsOver m.from x.outcome) ls) same
                  (overs l each.0 ls in_time.0 each.1),
              tt,
            );
      }
    where
      overs : (l : Link) → IsLink t es l → (ls : List Link) → AllByRecursion (λ (m : Link). IsPrefix l.until m.from) ls
          → AllByRecursion (IsLink t es) ls → AllByRecursion (λ (m : Link). IsOver m.from l.served.outcome) ls
      overs l is [] p each = tt
      overs l is (m ∷ ls) p each = (
        over l is m.from p.0 (prefix_trans m.from m.until es (link_later m each.0) (each.0).inside),
        overs l is ls p.1 each.1,
      )

  further_by : (rest : ℕ) (s : Served) (more : List Served) (done : List PlacedOutcome) (b : Bool)
      → is_dealt t.workers rest s ≡ b → (ls : List Link)
      → map (λ (l : Link). l.served) ls ≡ cond b (s ∷ dealt t.workers rest more) (dealt t.workers rest more)
      → AllByRecursion (IsLink t es) ls → InTime ls
      → AllByRecursion
      (λ (d : PlacedOutcome). d.place.session % t.workers ≡ rest
      → AllByRecursion (λ (l : Link). IsOver l.from d.outcome) ls) done
      → Stage rest (done ++ told_of s ∷ []) more
  further_by rest s more done true dealt_is ls e each in_time before =
      own_further rest s more done ls e each in_time before
  further_by rest s more done false dealt_is ls e each in_time before = record {
    links = ls;
    served = e;
    each = each;
    in_time = in_time;
    before = all_append
        (λ (d : PlacedOutcome). d.place.session % t.workers ≡ rest
        → AllByRecursion (λ (l : Link). IsOver l.from d.outcome) ls)
        done (told_of s ∷ []) before (λ k. absurd (eqb-false (rest_of t.workers s) rest dealt_is k), tt);
  }

  further : (rest : ℕ) (s : Served) (more : List Served) (done : List PlacedOutcome) → Stage rest done (s ∷ more)
      → Stage rest (done ++ told_of s ∷ []) more
  further rest s more done g =
      further_by rest s more done (is_dealt t.workers rest s) refl g.links g.served g.each g.in_time g.before

  -- ---- all jobs

  holds_next : (s : Served) → Stands s ss → (done : List PlacedOutcome) → Next s done → Holds t s.placed s.outcome
  holds_next s h done n =
      subst (λ (x : Served). Holds t x.placed x.outcome) n.served
      (n.is.holds
      (subst (λ (x : Served). (reach o es).last + spare x.outcome ≤ greatest t.mask t.before + attempts t.jobs)
      (sym n.served)
      (bound t ss es pass_of r s h))
      (subst (λ (x : Served). is_committed x.outcome ≡ false → HasNoBlock t x.placed) (sym n.served) (blockless s h)))

  before_next : (s : Served) (done : List PlacedOutcome) → Next s done → AllBefore t done s.placed s.outcome
  before_next s done n =
      all_like
      (λ (d : PlacedOutcome). d.place.session % t.workers ≡ rest_of t.workers s → IsOver n.link.from d.outcome)
      (λ (d : PlacedOutcome). HaveOneWorker t.workers d.place.session s.placed.place.session
      → RunsBefore t d.outcome s.placed s.outcome)
      (λ d h same. subst (λ (x : Served). RunsBefore t d.outcome x.placed x.outcome) n.served
      (runs_before n.link n.is d.outcome (h same))) done n.before

  each_holds : (done : List PlacedOutcome) (more : List Served) → ((s : Served) → Stands s more → Stands s ss)
      → ((rest : ℕ) → rest < t.workers → Stage rest done more)
      → EachHolds t done (map (λ (s : Served). s.placed) more) (map told_of more)
  each_holds done [] among g = tt
  each_holds done (s ∷ more) among g =
      let n : Next s done = next s more done (g (rest_of t.workers s) (rest_low t ss es pass_of r s)) in (
        refl,
        holds_next s (among s (inl refl)) done n,
        before_next s done n,
        each_holds (done ++ told_of s ∷ []) more (λ x h. among x (inr h))
            (λ rest low. further rest s more done (g rest low)),
      )

  first_stage : (rest : ℕ) → rest < t.workers → Stage rest [] ss
  first_stage rest low =
      let l = line t ss es pass_of r rest low in
      record { links = l.links; served = l.served; each = l.each; in_time = l.in_time; before = tt }

  pub outcomes_hold : EachHolds t [] (map (λ (s : Served). s.placed) ss) (map told_of ss)
  outcomes_hold = each_holds [] ss (λ s h. h) first_stage
